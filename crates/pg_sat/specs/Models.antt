-- Assignments, read off a trail on which each variable is set.
use Rattle.std.specs.Prelude.{◌≡◌, ◌≢◌, ℕ, ◌+◌, ◌<◌, ◌≤◌, Bool, false, ℤ, pos, List, length, Option, None, Some, slice_index_or}
use Rattle.pg_watch.specs.Trail.{value_of}

-- each of the first variables is set
abbrev pub AreAllSet : ℕ → List ℤ → Type 0
AreAllSet variables set = (v : ℕ) → 0 < v → v ≤ variables → value_of set (pos v) ≢ None

abbrev pub is_true : Option Bool → Bool
is_true None = false
is_true (Some b) = b

-- place v - 1 has the value of variable v
pub record IsRead (variables : ℕ) (set : List ℤ) (assignment : List Bool) : Type 0 where
  pub long : length assignment ≡ variables
  pub reads : (k : ℕ) → k < variables → slice_index_or assignment k false ≡ is_true (value_of set (pos (k + 1)))
