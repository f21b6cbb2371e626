use Rattle.pg_move.proofs.RoomLemmas.{texts_have_room}
use Rattle.pg_move.proofs.laws.saved_texts_have_room.Goals as goal

pub returns : goal.returns
returns c = texts_have_room
