-- Strings that are not the same gates.
use Rattle.std.proofs.Common.{◌≡◌, ◌≢◌, Bool, true, false, ◌&&◌, List, [], ◌∷◌, length, refl, arith}
use Rattle.pg_circuit.specs.declared.node.Gate.{Gate}
use Rattle.pg_circuit.specs.Nodes.{same_gate}
use Rattle.pg_cells.specs.Made.{same_gates}

pub other_length : (xs ys : List Gate) → length xs ≢ length ys → false ≡ same_gates xs ys
other_length [] [] n = absurd (n refl)
other_length [] (y ∷ ys) n = refl
other_length (x ∷ xs) [] n = refl
other_length (x ∷ xs) (y ∷ ys) n = by (same_gate x y) (other_length xs ys (λ e. n (omega arith)))
  where
    by : (b : Bool) → false ≡ same_gates xs ys → false ≡ b && same_gates xs ys
    by true e = e
    by false e = refl
