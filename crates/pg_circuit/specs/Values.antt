-- What the nodes of a circuit are worth, where the inputs have values.
use Rattle.std.specs.Prelude.{ℕ, ◌<◌, ⊤, Bool, false, ◌&&◌, not, List, [], ◌∷◌, ◌++◌, slice_index_or}
use Rattle.std.proofs.Math.Bool.{beq}
use Rattle.pg_circuit.specs.declared.node.Gate.{Gate}
use Rattle.pg_circuit.specs.declared.node.Node.{Node}
use Rattle.pg_circuit.specs.declared.node.Node.TheVariants.{Constant, Input, And, Xor}

-- exactly one is true
abbrev pub differ : Bool → Bool → Bool
differ a b = not (beq a b)

-- the value of a gate, from the values of the nodes: it is negated where the handle is
abbrev pub gate_value : List Bool → Gate → Bool
gate_value values g = differ (slice_index_or values g.number false) g.negated

-- the value of a node, from those of the inputs and of the nodes before it
abbrev pub node_value : List Bool → List Bool → Node → Bool
node_value inputs before Constant = false
node_value inputs before (Input n) = slice_index_or inputs n false
node_value inputs before (And x y) = gate_value before x && gate_value before y
node_value inputs before (Xor x y) = differ (gate_value before x) (gate_value before y)

-- a gate that is there
abbrev pub IsThere : ℕ → Gate → Type 0
IsThere places g = g.number < places

-- what a node is over is there, among so many inputs and so many nodes
abbrev pub IsKnown : ℕ → ℕ → Node → Type 0
IsKnown inputs places Constant = ⊤
IsKnown inputs places (Input n) = n < inputs
IsKnown inputs places (And x y) = IsThere places x × IsThere places y
IsKnown inputs places (Xor x y) = IsThere places x × IsThere places y

-- the values that are there, and those of the nodes that follow
abbrev pub values_after : List Bool → List Bool → List Node → List Bool
values_after inputs before [] = before
values_after inputs before (n ∷ ns) = values_after inputs (before ++ node_value inputs before n ∷ []) ns

-- the value of each node, in order
abbrev pub values_of : List Bool → List Node → List Bool
values_of inputs nodes = values_after inputs [] nodes
