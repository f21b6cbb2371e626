-- How counts of faults go on over several calls.
use Rattle.std.proofs.Common.{ℕ, ◌≤◌, arith}
use Rattle.pg_edge.specs.Count.{Rose}

-- a count that rose since later rose since earlier
pub Rose-earlier : (before mid now : ℕ) → before ≤ mid → Rose mid now → Rose before now
Rose-earlier before mid now later rose = omega arith
