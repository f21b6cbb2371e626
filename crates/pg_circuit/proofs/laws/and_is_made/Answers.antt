use Rattle.pg_circuit.proofs.MadeLemmas.{and_made-there, and_made-inputs, and_made-value}
use Rattle.pg_circuit.proofs.laws.and_is_made.Goals as goal

pub returns : goal.returns
returns c = let ns = c.args.nodes.now in let r = c.requires in
    record {
      made = and_made-there ns r.circuit c.args.x c.args.y r.left r.right;
      inputs = and_made-inputs ns r.circuit c.args.x c.args.y r.left r.right;
      value = and_made-value ns r.circuit c.args.x c.args.y r.left r.right;
    }
