use Rattle.std.proofs.Common.{[], ◌+◌, arith}
use Rattle.pg_watch.proofs.Steps.{length-reasons}
use Rattle.pg_sat.proofs.TraceLemmas.{derived-from}
use Rattle.pg_sat.proofs.trace.trace_to_lone.Goals as goal

pub step_back-requires-clause-propagated : goal.step_back-requires-clause-propagated
step_back-requires-clause-propagated c =
    let t = c.args.watches.now.trail in
    let long = length-reasons c.args.watches.now.clauses [] t.literals t.reasons c.trail.ensures.right.reasoned in
    derived-from t.reasons (c.args.last + 1) c.loop-at.at c.requires.propagated (omega (arith, c.loop-at-test.true)) (omega (arith, long, c.loop-at.invariant.within))
