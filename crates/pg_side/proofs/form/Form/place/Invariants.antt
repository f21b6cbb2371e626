use Rattle.std.proofs.Common.{length}
use Rattle.pg_side.proofs.form.Form.place.Given as goal

abbrev pub decreases-loop-part : goal.decreases-loop-part
decreases-loop-part l = length l.left
