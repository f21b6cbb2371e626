use Rattle.pg_circuit.proofs.MadeLemmas.{constant_value}
use Rattle.pg_circuit.proofs.laws.constant_has_its_value.Goals as goal

pub returns : goal.returns
returns c = constant_value c.args.inputs.now c.args.nodes.now c.args.value c.requires
