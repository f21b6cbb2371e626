use Rattle.pg_type.proofs.PairLemmas.{states_shown}
use Rattle.pg_type.proofs.pair_laws.shown_states_are_a_pair.Goals as goal

pub returns : goal.returns
returns c = states_shown
