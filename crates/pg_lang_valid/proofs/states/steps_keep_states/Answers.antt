use Rattle.pg_lang_valid.proofs.StepSound.{steps-state}
use Rattle.pg_lang_valid.proofs.states.steps_keep_states.Goals as goal

pub returns : goal.returns
returns c = steps-state
