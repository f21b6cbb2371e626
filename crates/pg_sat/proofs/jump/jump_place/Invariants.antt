use Rattle.std.proofs.Common.{◌≤◌}
use Rattle.pg_watch.specs.Assigned.{IsAssigned}
use Rattle.pg_sat.proofs.JumpLemmas.{NoneBetween}
use Rattle.pg_sat.proofs.jump.jump_place.Given as goal

abbrev pub invariant-loop-at : goal.invariant-loop-at
invariant-loop-at l = record {
  below : l.at ≤ l.last;
  assigned : IsAssigned l.watches.trail l.jump;
  between : NoneBetween l.watches.trail l.at l.jump;
}

abbrev pub decreases-loop-at : goal.decreases-loop-at
decreases-loop-at l = l.at
