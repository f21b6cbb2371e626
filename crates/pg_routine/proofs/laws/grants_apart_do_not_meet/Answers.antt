use Rattle.pg_routine.proofs.GrantLaws.{guest-apart}
use Rattle.pg_routine.proofs.laws.grants_apart_do_not_meet.Goals as goal

pub returns : goal.returns
returns c = guest-apart
