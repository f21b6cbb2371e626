-- What a call keeps, and what holds of the gate that it makes.
use Rattle.std.specs.Prelude.{◌≡◌, ◌<◌, Bool, List, length, take}
use Rattle.pg_circuit.specs.declared.node.Gate.{Gate}
use Rattle.pg_circuit.specs.declared.node.Node.{Node}
use Rattle.pg_circuit.specs.Nodes.{IsCircuit}
use Rattle.pg_circuit.specs.Values.{gate_value, values_of}

-- the nodes that were there are the first of the new ones, so each gate keeps its number
abbrev pub GrowsTo : List Node → List Node → Type 0
GrowsTo old new = take (length old) new ≡ old

-- a gate of a circuit that the nodes have grown to
pub record IsMade (old : List Node) (made : Gate × List Node) : Type 0 where
  pub front : GrowsTo old made.1
  pub circuit : IsCircuit made.1
  pub there : made.0.number < length made.1

-- the value of a made gate where the inputs have values
abbrev pub made_value : List Bool → Gate × List Node → Bool
made_value inputs made = gate_value (values_of inputs made.1) made.0
