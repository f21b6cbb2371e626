-- Literals that may be assigned.
use Rattle.std.specs.Prelude.{◌≡◌, ℕ, ℤ, List, None}
use Rattle.pg_cnf.specs.Literals.{IsLiteral}
use Rattle.pg_watch.specs.Trail.{value_of}

-- a literal of one of the variables that is unset
pub record IsFree (variables : ℕ) (set : List ℤ) (z : ℤ) : Type 0 where
  pub literal : IsLiteral variables z
  pub unset : value_of set z ≡ None
