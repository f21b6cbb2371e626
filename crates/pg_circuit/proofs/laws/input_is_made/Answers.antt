use Rattle.pg_circuit.proofs.MadeLemmas.{input_made-there, input_made-inputs, input_made-value}
use Rattle.pg_circuit.proofs.laws.input_is_made.Goals as goal

pub returns : goal.returns
returns c = let ns = c.args.nodes.now in
    record { made = input_made-there ns c.requires; inputs = input_made-inputs ns c.requires; value = input_made-value ns c.requires }
