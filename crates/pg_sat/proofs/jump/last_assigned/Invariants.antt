use Rattle.std.proofs.Common.{◌≤◌, length, drop}
use Rattle.pg_watch.specs.Trail.{AreDerived}
use Rattle.pg_sat.proofs.jump.last_assigned.Given as goal

abbrev pub invariant-loop-at : goal.invariant-loop-at
invariant-loop-at l = record {
  within : l.at ≤ length l.watches.trail.reasons;
  propagated : AreDerived (drop l.at l.watches.trail.reasons);
}

abbrev pub decreases-loop-at : goal.decreases-loop-at
decreases-loop-at l = l.at
