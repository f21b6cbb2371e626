use Rattle.pg_verify.proofs.TakeLemmas.{valid_texts_are_taken}
use Rattle.pg_verify.proofs.laws.valid_texts_are_taken.Goals as goal

pub returns : goal.returns
returns c = valid_texts_are_taken
