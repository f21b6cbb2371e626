use Rattle.std.proofs.Common.{length}
use Rattle.pg_sat_foreign.proofs.answer.read_answer.Given as goal

abbrev pub decreases-loop-line : goal.decreases-loop-line
decreases-loop-line l = length l.bytes.left.now
