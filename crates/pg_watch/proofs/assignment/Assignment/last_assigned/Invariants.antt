use Rattle.std.proofs.Common.{◌≡◌, ◌≤◌, ℕ, length, None, Some, slice_get}
use Rattle.pg_watch.proofs.assignment.Assignment.last_assigned.Given as goal

abbrev pub invariant-loop-place : goal.invariant-loop-place
invariant-loop-place l = record {
  within : l.place ≤ length l.self.reasons;
  behind : (d : ℕ) → l.place ≤ d → slice_get l.self.reasons d ≡ Some None → ⊥;
}

abbrev pub decreases-loop-place : goal.decreases-loop-place
decreases-loop-place l = l.place
