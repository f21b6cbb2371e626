-- Gates that are there, and what they are worth in every circuit that begins with these nodes.
use Rattle.std.specs.Prelude.{◌≡◌, ℕ, Bool, List, length, take}
use Rattle.std.specs.List.{All}
use Rattle.pg_circuit.specs.declared.node.Gate.{Gate}
use Rattle.pg_circuit.specs.declared.node.Node.{Node}
use Rattle.pg_circuit.specs.Values.{IsThere, values_of}

-- all of these gates are there, among so many nodes
abbrev pub AreThere : ℕ → List Gate → Type 0
AreThere places gates = All (IsThere places) gates

-- the values of a circuit that begins with these nodes, where its inputs have values
pub record AreValues (inputs : List Bool) (nodes : List Node) (values : List Bool) : Type 0 where
  pub begun : take (length nodes) values ≡ values_of inputs nodes
