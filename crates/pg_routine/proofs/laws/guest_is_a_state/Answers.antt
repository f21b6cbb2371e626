use Rattle.pg_routine.proofs.StateLaws.{guest-state}
use Rattle.pg_routine.proofs.laws.guest_is_a_state.Goals as goal

pub returns : goal.returns
returns c = guest-state
