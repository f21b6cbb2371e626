use Rattle.std.proofs.Common.{length, ◌≤◌}
use Rattle.pg_sat_foreign.proofs.binary.code.Given as goal

abbrev pub invariant-loop-place : goal.invariant-loop-place
invariant-loop-place l = length l.bytes.left.now ≤ length l.initial.bytes.left.now
