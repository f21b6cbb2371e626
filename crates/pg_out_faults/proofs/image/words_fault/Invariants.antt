use Rattle.std.proofs.Common.{length}
use Rattle.pg_out_faults.proofs.image.words_fault.Given as goal

abbrev pub decreases-loop-part : goal.decreases-loop-part
decreases-loop-part l = length l.left
