use Rattle.pg_type.proofs.AlikeLemmas.{user_done_alike}
use Rattle.pg_type.proofs.AlikeSteps.{hybrid_alike}
use Rattle.pg_type.proofs.alike.done_alike_in_user_mode.Goals as goal

pub returns : goal.returns
returns c = record { one = user_done_alike; each = hybrid_alike }
