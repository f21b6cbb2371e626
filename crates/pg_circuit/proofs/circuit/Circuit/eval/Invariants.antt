use Rattle.std.proofs.Common.{◌≡◌, take, drop}
use Rattle.pg_circuit.specs.Nodes.{IsAfter}
use Rattle.pg_circuit.specs.Values.{values_of, values_after}
use Rattle.pg_circuit.proofs.circuit.Circuit.eval.Given as goal

-- the nodes that follow are worth on the values that are there what they are worth in the circuit
abbrev pub invariant-loop-k : goal.invariant-loop-k
invariant-loop-k l = record {
  values : values_after l.inputs (take l.k l.values) (drop l.k l.node-items) ≡ values_of l.inputs l.node-items;
  in_order : IsAfter (take l.k l.node-items) (drop l.k l.node-items);
}
