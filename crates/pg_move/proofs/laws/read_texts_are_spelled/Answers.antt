use Rattle.pg_move.proofs.SpellLemmas.{texts_spelled}
use Rattle.pg_move.proofs.laws.read_texts_are_spelled.Goals as goal

pub returns : goal.returns
returns c = texts_spelled
