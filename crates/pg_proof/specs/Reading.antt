-- What a clause says where some literals are true: one step of unit propagation.
use Rattle.std.specs.Prelude.{Bool, not, if◌then◌else◌, ℤ, neg_ℤ, List, [], ◌∷◌}
use Rattle.std.specs.List.{filter}
use Rattle.pg_proof.specs.declared.propagation.Reading.{Reading}
use Rattle.pg_proof.specs.declared.propagation.Reading.TheVariants.{Falsified, Unit, Neither}

-- the literals of a clause that are not false, where a test tells which literals are true
abbrev pub open_of : (ℤ → Bool) → List ℤ → List ℤ
open_of is_true clause = filter (λ z. not (is_true (neg_ℤ z))) clause

-- none is left: the clause is false; or one, which is unset: it sets it
abbrev pub reading_of : (ℤ → Bool) → List ℤ → Reading
reading_of is_true [] = Falsified
reading_of is_true (z ∷ []) = (if is_true z then Neither else Unit z)
reading_of is_true (z ∷ y ∷ zs) = Neither

abbrev pub reading : (ℤ → Bool) → List ℤ → Reading
reading is_true clause = reading_of is_true (open_of is_true clause)
