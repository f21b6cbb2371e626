use Rattle.pg_cmd_gen.proofs.OneDescription.{one-generated}
use Rattle.pg_cmd_gen.proofs.laws.one_description_is_generated.Goals as goal

pub returns : goal.returns
returns c = one-generated
