use Rattle.std.proofs.Common.{ℕ, ◌≤◌}
use Rattle.pg_watch.specs.Assigned.{IsAssigned}
use Rattle.pg_sat.proofs.jump.first_assigned.Given as goal

abbrev pub invariant-loop-place : goal.invariant-loop-place
invariant-loop-place l = (d : ℕ) → IsAssigned l.watches.trail d → l.place ≤ d
