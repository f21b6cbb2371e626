use Rattle.pg_type.proofs.AlikeSteps.{steps_alike}
use Rattle.pg_type.proofs.alike.step_alike.Goals as goal

pub returns : goal.returns
returns c = steps_alike
