use Rattle.pg_circuit.proofs.MadeLemmas.{not_value}
use Rattle.pg_circuit.proofs.laws.not_has_the_other_value.Goals as goal

pub returns : goal.returns
returns c = not_value c.args.values.now c.args.x
