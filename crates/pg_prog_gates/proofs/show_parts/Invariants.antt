use Rattle.std.proofs.Common.{length}
use Rattle.pg_prog_gates.proofs.show_parts.Given as goal

abbrev pub decreases-loop-left : goal.decreases-loop-left
decreases-loop-left l = length l.left
