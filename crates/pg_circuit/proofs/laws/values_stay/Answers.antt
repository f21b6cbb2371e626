use Rattle.pg_circuit.proofs.MadeLemmas.{values_of-front}
use Rattle.pg_circuit.proofs.laws.values_stay.Goals as goal

pub returns : goal.returns
returns c = values_of-front c.args.inputs.now c.args.old.now c.args.new.now c.requires
