use Rattle.pg_lang_valid.proofs.StepSound.{power_on-state}
use Rattle.pg_lang_valid.proofs.states.power_on_is_a_state.Goals as goal

pub returns : goal.returns
returns c = power_on-state
