use Rattle.pg_type.proofs.AlikeSteps.{user_steps_alike}
use Rattle.pg_type.proofs.alike.step_alike_in_user_mode.Goals as goal

pub returns : goal.returns
returns c = user_steps_alike
