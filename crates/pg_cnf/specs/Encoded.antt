-- The clauses of a circuit whose root is to be true. Variable k + 1 stands for node k.
use Rattle.std.specs.Prelude.{◌≡◌, ℕ, ◌+◌, ◌<◌, ◌≢◌, ⊤, Bool, true, if◌then◌else◌, ℤ, pos, negsuc, List, [], ◌∷◌, ◌++◌, length, map}
use Rattle.pg_circuit.specs.declared.node.Gate.{Gate}
use Rattle.pg_circuit.specs.declared.node.Node.{Node}
use Rattle.pg_circuit.specs.declared.node.Node.TheVariants.{Constant, Input, And, Xor}
use Rattle.pg_circuit.specs.Nodes.{AreOperands, input_count}
use Rattle.pg_circuit.specs.Values.{gate_value, values_of}
use Rattle.pg_circuit.specs.Made.{gate_at, not_gate}

-- the variable of the gate's node, or its negation: negsuc k is -(k + 1)
abbrev pub literal_of : Gate → ℤ
literal_of g = (if g.negated then negsuc g.number else pos (g.number + 1))

-- one of these gates is true
abbrev pub clause_of : List Gate → List ℤ
clause_of gates = map literal_of gates

-- v is true exactly where x and y both are
abbrev pub and_clauses : Gate → Gate → Gate → List (List ℤ)
and_clauses v x y =
    clause_of (not_gate v ∷ x ∷ []) ∷
    clause_of (not_gate v ∷ y ∷ []) ∷
    clause_of (v ∷ not_gate x ∷ not_gate y ∷ []) ∷ []

-- v is true exactly where one of x and y is
abbrev pub xor_clauses : Gate → Gate → Gate → List (List ℤ)
xor_clauses v x y =
    clause_of (not_gate v ∷ x ∷ y ∷ []) ∷
    clause_of (not_gate v ∷ not_gate x ∷ not_gate y ∷ []) ∷
    clause_of (v ∷ not_gate x ∷ y ∷ []) ∷
    clause_of (v ∷ x ∷ not_gate y ∷ []) ∷ []

-- the clauses of the node with a number
abbrev pub node_clauses : ℕ → Node → List (List ℤ)
node_clauses number Constant = clause_of (not_gate (gate_at number) ∷ []) ∷ []
node_clauses number (Input n) = []
node_clauses number (And x y) = and_clauses (gate_at number) x y
node_clauses number (Xor x y) = xor_clauses (gate_at number) x y

-- those of nodes in order, the first of which has a number
abbrev pub clauses_from : ℕ → List Node → List (List ℤ)
clauses_from number [] = []
clauses_from number (n ∷ ns) = node_clauses number n ++ clauses_from (number + 1) ns

-- and last, that the root is true
abbrev pub clauses_of : List Node → Gate → List (List ℤ)
clauses_of nodes root = clauses_from 0 nodes ++ clause_of (root ∷ []) ∷ []

-- an assignment is what the nodes are worth where the inputs have some values, and the root is true
pub record IsRun (nodes : List Node) (root : Gate) (assignment : List Bool) : Type 0 where
  pub inputs : List Bool
  pub as_many : length inputs ≡ input_count nodes
  pub values : assignment ≡ values_of inputs nodes
  pub holds : gate_value assignment root ≡ true

-- the operands of the node with a number are two gates before it
abbrev pub IsPlaced : ℕ → Node → Type 0
IsPlaced number Constant = ⊤
IsPlaced number (Input n) = ⊤
IsPlaced number (And x y) = AreOperands number x y
IsPlaced number (Xor x y) = AreOperands number x y

-- gates of other nodes
abbrev pub AreOthers : ℕ → List Gate → Type 0
AreOthers number [] = ⊤
AreOthers number (g ∷ gs) = (number ≢ g.number) × AreOthers number gs

-- gates of so many nodes, no two of one
abbrev pub AreApart : ℕ → List Gate → Type 0
AreApart nodes [] = ⊤
AreApart nodes (g ∷ gs) = (g.number < nodes) × AreOthers g.number gs × AreApart nodes gs
