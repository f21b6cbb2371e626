use Rattle.pg_proof.proofs.NewLemmas.{new_uncovered}
use Rattle.pg_proof.proofs.laws.new_steps_are_uncovered.Goals as goal

pub returns : goal.returns
returns c = new_uncovered
