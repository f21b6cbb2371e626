-- The clauses of small circuits, worked out by hand: each is a law of the crate.
use Rattle.std.specs.Prelude.{◌≡◌, true, false, pos, negsuc, [], ◌∷◌}
use Rattle.pg_circuit.specs.declared.node.Node.TheVariants.{Constant, Input, And, Xor}
use Rattle.pg_circuit.specs.Made.{gate_at, not_gate, constant_gate}
use Rattle.pg_cnf.specs.Truth.{clauses_true}
use Rattle.pg_cnf.specs.Encoded.{clauses_of}

-- the constant is false, and is to be true: -1, and 1
abbrev pub NeverTrue : Type 0
NeverTrue = clauses_of (Constant ∷ []) (constant_gate false) ≡ (negsuc 0 ∷ []) ∷ (pos 1 ∷ []) ∷ []

-- the and of two inputs: -1; -4 2; -4 3; 4 -2 -3; 4
abbrev pub OneAnd : Type 0
OneAnd =
    clauses_of (Constant ∷ Input 0 ∷ Input 1 ∷ And (gate_at 1) (gate_at 2) ∷ []) (gate_at 3)
    ≡ (negsuc 0 ∷ []) ∷ (negsuc 3 ∷ pos 2 ∷ []) ∷ (negsuc 3 ∷ pos 3 ∷ []) ∷ (pos 4 ∷ negsuc 1 ∷ negsuc 2 ∷ []) ∷ (pos 4 ∷ []) ∷ []

-- an exclusive or that is to be false: -1; -4 2 -3; -4 -2 3; 4 -2 -3; 4 2 3; -4
abbrev pub OneXor : Type 0
OneXor =
    clauses_of (Constant ∷ Input 0 ∷ Input 1 ∷ Xor (gate_at 1) (not_gate (gate_at 2)) ∷ []) (not_gate (gate_at 3))
    ≡ (negsuc 0 ∷ []) ∷ (negsuc 3 ∷ pos 2 ∷ negsuc 2 ∷ []) ∷ (negsuc 3 ∷ negsuc 1 ∷ pos 3 ∷ []) ∷ (pos 4 ∷ negsuc 1 ∷ negsuc 2 ∷ [])
    ∷ (pos 4 ∷ pos 2 ∷ pos 3 ∷ []) ∷ (negsuc 3 ∷ []) ∷ []

-- on the values of both inputs the and's clauses are true where both are
abbrev pub BothHold : Type 0
BothHold =
    clauses_true (false ∷ true ∷ true ∷ true ∷ []) (clauses_of (Constant ∷ Input 0 ∷ Input 1 ∷ And (gate_at 1) (gate_at 2) ∷ []) (gate_at 3))
    ≡ true

abbrev pub OneDoesNotHold : Type 0
OneDoesNotHold =
    clauses_true (false ∷ true ∷ false ∷ true ∷ []) (clauses_of (Constant ∷ Input 0 ∷ Input 1 ∷ And (gate_at 1) (gate_at 2) ∷ []) (gate_at 3))
    ≡ false
