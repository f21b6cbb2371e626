use Rattle.std.proofs.Common.{◌≡◌, ◌-◌, ℕ, arith, take, subst, []}
use Rattle.pg_watch.proofs.Steps.{length-reasons}
use Rattle.pg_sat.specs.Trace.{IsTraced}
use Rattle.pg_sat.proofs.TraceLemmas.{derived-from}
use Rattle.pg_sat.proofs.trace.trace_back.Goals as goal

pub step_back-requires-clause-propagated : goal.step_back-requires-clause-propagated
step_back-requires-clause-propagated c =
    let t = c.args.watches.now.trail in
    let long = length-reasons c.args.watches.now.clauses [] t.literals t.reasons c.trail-at.ensures.right.reasoned in
    derived-from t.reasons c.args.from (c.loop-at.at - 1) c.requires.propagated (omega arith) (omega (arith, long, c.loop-at.invariant.within))

pub returns : goal.returns
returns c =
    let e : c.loop-at.at ≡ c.args.from = omega (arith, c.loop-at.invariant.from) in
    subst (λ (k : ℕ). IsTraced c.args.variables c.args.watches.now.clauses (take k c.args.watches.now.trail.literals) c.loop-at.trace.flags c.loop-at.trace.hints.items) e c.loop-at.invariant.traced
