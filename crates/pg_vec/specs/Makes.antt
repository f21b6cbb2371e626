-- What is made: how many nodes are added, and what it is worth.
use Rattle.std.specs.Prelude.{◌≡◌, ℕ, Bool, List, length}
use Rattle.pg_circuit.specs.declared.node.Gate.{Gate}
use Rattle.pg_circuit.specs.declared.node.Node.{Node}
use Rattle.pg_circuit.specs.Nodes.{IsCircuit}
use Rattle.pg_circuit.specs.Values.{gate_value, IsThere}
use Rattle.pg_vec.specs.Number.{number}
use Rattle.pg_vec.specs.AddsNodes.{AddsNodes}
use Rattle.pg_vec.specs.There.{AreThere, AreValues}

-- At most so many nodes are added, and a gate is there which is worth this, from the values of all nodes, in every circuit
-- that begins with the nodes that there are then. It serves the laws of single gates, here and in crates above; no contract
-- cites it.
pub record MakesGate (nodes : List Node) (made : Gate × List Node) (most : ℕ) (worth : List Bool → Bool) : Type 0 where
  pub circuit : IsCircuit made.1
  pub adds : AddsNodes nodes made.1 most
  pub there : IsThere (length made.1) made.0
  pub value : (inputs values : List Bool) → AreValues inputs made.1 values → gate_value values made.0 ≡ worth values

-- The same of a string of some width, read as a number.
pub record MakesBits (nodes : List Node) (made : List Gate × List Node) (width most : ℕ) (worth : List Bool → ℕ) : Type 0 where
  pub circuit : IsCircuit made.1
  pub adds : AddsNodes nodes made.1 most
  pub there : AreThere (length made.1) made.0
  pub wide : length made.0 ≡ width
  pub value : (inputs values : List Bool) → AreValues inputs made.1 values → number values made.0 ≡ worth values
