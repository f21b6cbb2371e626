use Rattle.std.proofs.Common.{◌<◌, subst}
use Rattle.std.specs.Option.{option_copied}
use Rattle.pg_proof.proofs.SpanLemmas.{held-next}
use Rattle.pg_proof.proofs.store.copy_of.Goals as goal

pub loop-i-preserved : goal.loop-i-preserved
loop-i-preserved c =
    held-next c.args.store.now c.loop-i.made c.append_held.new.self c.loop-i.i (option_copied c.held_at.result)
    (subst (λ n. c.loop-i.i < n) c.len-i-end.ensures c.loop-i-test.true) c.held_at.ensures.literals c.loop-i.invariant
    c.in_ok-append_held.ensures.ok
