use Rattle.std.proofs.Common.{◌≡◌, ◌<◌, ℕ, None, Some, slice_get}
use Rattle.pg_watch.proofs.assignment.Assignment.has_assigned.Given as goal

abbrev pub invariant-loop-reason : goal.invariant-loop-reason
invariant-loop-reason l = (d : ℕ) → d < l.reason-index → slice_get l.reason-items d ≡ Some None → ⊥
