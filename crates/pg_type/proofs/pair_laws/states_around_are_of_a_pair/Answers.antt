use Rattle.pg_type.proofs.PlacingLemmas.{states_around}
use Rattle.pg_type.proofs.pair_laws.states_around_are_of_a_pair.Goals as goal

pub returns : goal.returns
returns c = states_around
