use Rattle.std.proofs.Common.{length, ◌≤◌}
use Rattle.pg_sat_foreign.proofs.binary.literals.Given as goal

abbrev pub invariant-loop-code : goal.invariant-loop-code
invariant-loop-code l = length l.bytes.left.now ≤ length l.initial.bytes.left.now

abbrev pub decreases-loop-code : goal.decreases-loop-code
decreases-loop-code l = length l.bytes.left.now
