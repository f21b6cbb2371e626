use Rattle.std.proofs.Common.{length}
use Rattle.pg_sat_foreign.proofs.binary.read_binary.Given as goal

abbrev pub decreases-loop-first : goal.decreases-loop-first
decreases-loop-first l = length l.bytes.left.now
