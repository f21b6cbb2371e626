-- The table of values beside the list of the literals that are set.
use Rattle.std.specs.Prelude.{◌≡◌, ℕ, ◌+◌, ◌*◌, ◌<◌, ◌^◌, Bool, ℤ, pos, nat_abs, List, [], length, Option, None, slice_index_or}
use Rattle.pg_cnf.specs.Literals.{IsLiteral}
use Rattle.pg_watch.specs.Trail.{value_of, AreSet}
use Rattle.pg_watch.specs.Places.{place_of}

-- for each literal that is set, the place where it is
abbrev pub AreWhere : List ℕ → List ℤ → Type 0
AreWhere places literals = (i : ℕ) → i < length literals → slice_index_or places (nat_abs (slice_index_or literals i (pos 0))) 0 ≡ i

-- the one table has an entry for each literal, with its value, and the other one for each variable, with its place if it is set
pub record IsTable (variables : ℕ) (values : List (Option Bool)) (wheres : List ℕ) (literals : List ℤ) (reasons : List (Option ℕ)) : Type 0 where
  pub few : variables < 2 ^ 31
  pub places : length values ≡ 2 * variables + 2
  pub reads : (z : ℤ) → IsLiteral variables z → slice_index_or values (place_of z) None ≡ value_of literals z
  pub wheres_long : length wheres ≡ variables + 1
  pub stands : AreWhere wheres literals
  pub as_many : length reasons ≡ length literals
  pub set : AreSet variables [] literals
