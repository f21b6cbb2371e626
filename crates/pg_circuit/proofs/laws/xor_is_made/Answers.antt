use Rattle.pg_circuit.proofs.MadeLemmas.{xor_made-there, xor_made-inputs, xor_made-value}
use Rattle.pg_circuit.proofs.laws.xor_is_made.Goals as goal

pub returns : goal.returns
returns c = let ns = c.args.nodes.now in let r = c.requires in
    record {
      made = xor_made-there ns r.circuit c.args.x c.args.y r.left r.right;
      inputs = xor_made-inputs ns r.circuit c.args.x c.args.y r.left r.right;
      value = xor_made-value ns r.circuit c.args.x c.args.y r.left r.right;
    }
