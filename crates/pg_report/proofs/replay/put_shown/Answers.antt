use Rattle.std.proofs.Common.{ℕ, ◌<◌, ◌^◌, All, sym, ap, subst}
use Rattle.pg_word.specs.declared.shape.Shape.{Shape}
use Rattle.pg_replay.proofs.StateLemmas.{words-listed}
use Rattle.pg_report.proofs.replay.put_shown.Goals as goal

pub put_sparse-requires-clause-fit : goal.put_sparse-requires-clause-fit
put_sparse-requires-clause-fit g c =
    let s = c.args.s.now in
    let words = words-listed c.args.m.now.desc.word s.size s.cells c.as_slice.ensures.listed s.within c.requires.words in
    subst (λ (w : ℕ). All (λ cell. cell.1 < 2 ^ w) s.cells) (sym (ap (λ (x : Shape). x.w) c.shape.ensures.numbers)) words
