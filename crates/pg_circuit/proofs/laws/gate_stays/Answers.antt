use Rattle.pg_circuit.proofs.MadeLemmas.{gate_value-front}
use Rattle.pg_circuit.proofs.laws.gate_stays.Goals as goal

pub returns : goal.returns
returns c = gate_value-front c.args.inputs.now c.args.old.now c.args.new.now c.args.x c.requires.front c.requires.there
