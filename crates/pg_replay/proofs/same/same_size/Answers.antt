use Rattle.std.proofs.Common.{sym, ◌∙◌}
use Rattle.std.proofs.lemmas.Bool.{eqb-true, eq-eqb}
use Rattle.pg_word.proofs.SparseLemmas.{length-storage_of}
use Rattle.pg_replay.proofs.same.same_size.Goals as goal

pub returns : goal.returns
returns c =
    let m = length-storage_of c.args.s.now.size c.args.s.now.cells in
    let n = length-storage_of c.args.t.now.size c.args.t.now.cells in
    (λ h. m ∙ eqb-true _ _ h ∙ sym n, λ e. eq-eqb _ _ (sym m ∙ e ∙ n))
