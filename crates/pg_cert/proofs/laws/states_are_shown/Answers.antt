use Rattle.pg_cert.proofs.StateText.{lines_of_state}
use Rattle.pg_cert.proofs.laws.states_are_shown.Goals as goal

pub returns : goal.returns
returns c = lines_of_state
