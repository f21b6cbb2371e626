use Rattle.pg_move.proofs.RoomLemmas.{texts_read_back}
use Rattle.pg_move.proofs.laws.saved_texts_read_back.Goals as goal

pub returns : goal.returns
returns c = texts_read_back
