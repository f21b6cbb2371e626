use Rattle.pg_type.proofs.AlikeSteps.{user_traps_alike}
use Rattle.pg_type.proofs.alike.traps_alike_in_user_mode.Goals as goal

pub returns : goal.returns
returns c = user_traps_alike
