use Rattle.pg_type.proofs.AlikeSteps.{control_kept}
use Rattle.pg_type.proofs.alike.control_is_kept.Goals as goal

pub returns : goal.returns
returns c = control_kept
