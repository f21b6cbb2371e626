use Rattle.std.proofs.Common.{length}
use Rattle.pg_out_guarded.proofs.places.+push_chosen.Given as goal

abbrev pub decreases-push_chosen : goal.decreases-push_chosen
decreases-push_chosen l = length l.marks.now
