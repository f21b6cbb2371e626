use Rattle.std.proofs.Common.{length}
use Rattle.pg_prog_go.proofs.request.words_of.Given as goal

abbrev pub decreases-loop-left : goal.decreases-loop-left
decreases-loop-left l = length l.left
