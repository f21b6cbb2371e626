use Rattle.pg_vec.proofs.Kept.{values_later}
use Rattle.pg_vec.proofs.laws.later_values_are_values.Goals as goal

pub returns : goal.returns
returns c = values_later c.args.inputs.now c.args.nodes.now c.args.later.now c.requires
