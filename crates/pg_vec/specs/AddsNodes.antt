-- What a call adds to a circuit in any case, also where memory runs out in the middle.
use Rattle.std.specs.Prelude.{◌≡◌, ℕ, ◌+◌, ◌≤◌, List, length}
use Rattle.pg_circuit.specs.declared.node.Node.{Node}
use Rattle.pg_circuit.specs.Nodes.{input_count}
use Rattle.pg_circuit.specs.Grown.{GrowsTo}

-- the nodes stay, at most so many are added, and no input among them
pub record AddsNodes (old new : List Node) (most : ℕ) : Type 0 where
  pub front : GrowsTo old new
  pub few : length new ≤ length old + most
  pub inputs : input_count new ≡ input_count old
