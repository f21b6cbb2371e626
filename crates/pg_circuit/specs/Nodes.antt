-- Nodes and gates: when two are the same, and which lists of nodes are circuits.
use Rattle.std.specs.Prelude.{◌≡◌, ℕ, ◌+◌, ◌<◌, ◌≢◌, Bool, true, false, ◌&&◌, ◌==◌, List, [], ◌∷◌, ◌++◌, length, ⊤}
use Rattle.std.specs.Coded.{×_prop, Unit-prop}
use Rattle.std.proofs.Props.{props}
use Rattle.std.specs.List.{list_any, position_or_len}
use Rattle.std.proofs.Math.Bool.{beq}
use Rattle.pg_circuit.specs.declared.node.Gate.{Gate}
use Rattle.pg_circuit.specs.declared.node.Node.{Node}
use Rattle.pg_circuit.specs.declared.node.Node.TheVariants.{Constant, Input, And, Xor}

abbrev pub same_gate : Gate → Gate → Bool
same_gate x y = (x.number == y.number) && beq x.negated y.negated

abbrev pub same_node : Node → Node → Bool
same_node Constant Constant = true
same_node (Input n) (Input m) = n == m
same_node (And x y) (And u v) = same_gate x u && same_gate y v
same_node (Xor x y) (Xor u v) = same_gate x u && same_gate y v
same_node _ _ = false

-- whether a node is among these
abbrev pub has_node : List Node → Node → Bool
has_node nodes n = list_any (same_node n) nodes

-- the place of a node, or the length where it is not there
abbrev pub place_of : List Node → Node → ℕ
place_of nodes n = position_or_len (same_node n) nodes

abbrev pub is_input : Node → Bool
is_input (Input n) = true
is_input _ = false

abbrev pub inputs_at : Node → ℕ
inputs_at (Input n) = 1
inputs_at _ = 0

-- how many inputs there are
abbrev pub input_count : List Node → ℕ
input_count [] = 0
input_count (n ∷ ns) = inputs_at n + input_count ns

-- the operands of a gate are two gates before it, and neither is the constant
pub record AreOperands (place : ℕ) (x y : Gate) : Type 0 where
  pub left_varies : 0 < x.number
  pub left_before : x.number < place
  pub right_varies : 0 < y.number
  pub right_before : y.number < place
  pub apart : x.number ≢ y.number

-- a node may follow these: the constant is the first and only there, and the inputs are numbered in order
abbrev pub IsNext : List Node → Node → Type 0
IsNext before Constant = length before ≡ 0
IsNext before (Input n) = (0 < length before) × (n ≡ input_count before)
IsNext before (And x y) = AreOperands (length before) x y
IsNext before (Xor x y) = AreOperands (length before) x y

-- each node in turn may follow those before it
abbrev pub IsAfter : List Node → List Node → Type 0
IsAfter before [] = ⊤
IsAfter before (n ∷ ns) = IsNext before n × IsAfter (before ++ n ∷ []) ns

-- a circuit begins with the constant, so it is not empty
pub record IsCircuit (nodes : List Node) : Type 0 where
  pub begun : 0 < length nodes
  pub in_order : IsAfter [] nodes

IsNext-prop : (before : List Node) (n : Node) → IsProp (IsNext before n)
IsNext-prop before Constant = hlevel props
IsNext-prop before (Input n) = hlevel props
IsNext-prop before (And x y) = hlevel props
IsNext-prop before (Xor x y) = hlevel props

IsAfter-prop : (before ns : List Node) → IsProp (IsAfter before ns)
IsAfter-prop before [] = Unit-prop
IsAfter-prop before (n ∷ ns) = ×_prop (IsNext-prop before n) (IsAfter-prop (before ++ n ∷ []) ns)

pub IsCircuit-prop : (nodes : List Node) → IsProp (IsCircuit nodes)
IsCircuit-prop nodes = hlevel (props, IsAfter-prop)
