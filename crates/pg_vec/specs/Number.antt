-- Bits read as numbers.
use Rattle.std.specs.Prelude.{ℕ, ◌+◌, ◌*◌, Bool, true, false, List, [], ◌∷◌}
use Rattle.pg_circuit.specs.declared.node.Gate.{Gate}
use Rattle.pg_circuit.specs.Values.{gate_value}

-- a bit as a number
abbrev pub bit_of : Bool → ℕ
bit_of true = 1
bit_of false = 0

-- the number of which these are the bits, bit 0 first, where the nodes have these values
abbrev pub number : List Bool → List Gate → ℕ
number values [] = 0
number values (g ∷ gs) = number values gs * 2 + bit_of (gate_value values g)
