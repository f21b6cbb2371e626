-- Small circuits, worked out by hand: each is a law of the crate.
use Rattle.std.specs.Prelude.{◌≡◌, true, false, List, [], ◌∷◌}
use Rattle.pg_circuit.specs.declared.node.Node.{Node}
use Rattle.pg_circuit.specs.declared.node.Node.TheVariants.{Constant, Input, And, Xor}
use Rattle.pg_circuit.specs.Values.{values_of}
use Rattle.pg_circuit.specs.Made.{gate_at, not_gate, constant_gate, and_made, xor_made, input_made}

-- two inputs, and the same with their and
abbrev pub two : List Node
two = Constant ∷ Input 0 ∷ Input 1 ∷ []

abbrev pub with_and : List Node
with_and = Constant ∷ Input 0 ∷ Input 1 ∷ And (gate_at 1) (gate_at 2) ∷ []

-- a node is added at the end, and found where it is there
abbrev pub AndIsAdded : Type 0
AndIsAdded = and_made two (gate_at 1) (gate_at 2) ≡ (gate_at 3, with_and)

abbrev pub AndIsFound : Type 0
AndIsFound = and_made with_and (gate_at 1) (gate_at 2) ≡ (gate_at 3, with_and)

-- but not the other way round
abbrev pub OtherOrderIsAdded : Type 0
OtherOrderIsAdded =
    and_made with_and (gate_at 2) (gate_at 1)
    ≡ (gate_at 4, Constant ∷ Input 0 ∷ Input 1 ∷ And (gate_at 1) (gate_at 2) ∷ And (gate_at 2) (gate_at 1) ∷ [])

-- what needs no node
abbrev pub AndWithItsNegation : Type 0
AndWithItsNegation = and_made two (gate_at 1) (not_gate (gate_at 1)) ≡ (constant_gate false, two)

abbrev pub XorWithItsNegation : Type 0
XorWithItsNegation = xor_made two (gate_at 1) (not_gate (gate_at 1)) ≡ (constant_gate true, two)

abbrev pub XorWithTrue : Type 0
XorWithTrue = xor_made two (constant_gate true) (gate_at 2) ≡ (not_gate (gate_at 2), two)

-- the next input has the next number
abbrev pub ThirdInput : Type 0
ThirdInput = input_made with_and ≡ (gate_at 4, Constant ∷ Input 0 ∷ Input 1 ∷ And (gate_at 1) (gate_at 2) ∷ Input 2 ∷ [])

-- values, with an exclusive or over a negation
abbrev pub ValuesInOrder : Type 0
ValuesInOrder =
    values_of (true ∷ false ∷ [])
    (Constant ∷ Input 0 ∷ Input 1 ∷ And (gate_at 1) (not_gate (gate_at 2)) ∷ Xor (gate_at 3) (not_gate (gate_at 1)) ∷ [])
    ≡ false ∷ true ∷ false ∷ true ∷ true ∷ []
