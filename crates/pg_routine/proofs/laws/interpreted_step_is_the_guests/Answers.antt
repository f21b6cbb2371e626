use Rattle.pg_routine.proofs.StateLaws.{interpreted-guest, interpreted-storage, interpreted-length}
use Rattle.pg_routine.proofs.laws.interpreted_step_is_the_guests.Goals as goal

pub returns : goal.returns
returns c = record { guest = interpreted-guest; storage = interpreted-storage; size = interpreted-length }
