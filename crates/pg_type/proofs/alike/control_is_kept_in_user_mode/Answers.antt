use Rattle.pg_type.proofs.AlikeSteps.{user_kept}
use Rattle.pg_type.proofs.alike.control_is_kept_in_user_mode.Goals as goal

pub returns : goal.returns
returns c = user_kept
