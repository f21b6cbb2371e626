use Rattle.pg_proof.proofs.SoundLemmas.{valid_follows}
use Rattle.pg_proof.proofs.laws.valid_steps_follow.Goals as goal

pub returns : goal.returns
returns c = valid_follows
