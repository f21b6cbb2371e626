-- The literals whose flags are up, in order.
use Rattle.std.specs.Prelude.{ℕ, zero, suc, ◌≡◌, ◌+◌, ◌<◌, ◌≤◌, Bool, false, if◌then◌else◌, ℤ, pos, neg_ℤ, List, [], ◌∷◌, ◌++◌, slice_index_or}
use Rattle.pg_proof.specs.Places.{is_marked}

-- that of a variable, if any
abbrev pub listed_at : List Bool → ℕ → List ℤ
listed_at flags v =
    (if is_marked flags (pos v) then pos v ∷ [] else (if is_marked flags (neg_ℤ (pos v)) then neg_ℤ (pos v) ∷ [] else []))

-- those of so many variables from one on
unfoldable pub listed : List Bool → ℕ → ℕ → List ℤ
listed flags v zero = []
listed flags v (suc k) = listed_at flags v ++ listed flags (v + 1) k

-- no flag is up from one place to before another
unfoldable pub AreDownWithin : List Bool → ℕ → ℕ → Type 0
AreDownWithin flags from to = (n : ℕ) → from ≤ n → n < to → slice_index_or flags n false ≡ false
