use Rattle.std.specs.Prelude.{codes}
use Rattle.std.proofs.lemmas.Result.{on_ok_weaker}
use Rattle.pg_out_steps.specs.Lines.{count_line}
use Rattle.pg_out_steps.proofs.TraceLemmas.{pushed}
use Rattle.pg_out_steps.proofs.shares.push_shares.Goals as goal

pub returns : goal.returns
returns c =
    let t = c.args.shares.now in
    on_ok_weaker c.push_count-2.result
    (λ last. pushed c.args.text.now.items c.push_count.new.text.items c.push_count-2.new.text.items (count_line (codes "direct") t.direct) (count_line (codes "emulated") t.emulated)
    c.in_ok-push_count.ensures last)
    c.push_count-2.ensures
