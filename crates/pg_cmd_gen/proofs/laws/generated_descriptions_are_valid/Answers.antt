use Rattle.pg_cmd_gen.proofs.ValidLemmas.{generated-valid}
use Rattle.pg_cmd_gen.proofs.laws.generated_descriptions_are_valid.Goals as goal

pub returns : goal.returns
returns c = generated-valid
