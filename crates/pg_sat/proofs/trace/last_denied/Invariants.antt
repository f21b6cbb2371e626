use Rattle.std.proofs.Common.{◌≤◌}
use Rattle.pg_sat.specs.Trace.{AreDown}
use Rattle.pg_sat.proofs.trace.last_denied.Given as goal

abbrev pub invariant-loop-place : goal.invariant-loop-place
invariant-loop-place l = record {
  below : l.place ≤ l.at;
  down : AreDown l.flags l.watches.trail.literals l.place l.at;
}

abbrev pub decreases-loop-place : goal.decreases-loop-place
decreases-loop-place l = l.place
