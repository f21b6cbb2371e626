-- What a search is over.
use Rattle.std.specs.Prelude.{◌≡◌, ℕ, ◌<◌, ◌^◌, ℤ, List}
use Rattle.pg_cnf.specs.Literals.{AreClauses}
use Rattle.pg_watch.specs.Trail.{Trail}

-- clauses and a trail over so many variables
pub record IsOver (variables : ℕ) (clauses : List (List ℤ)) (trail : Trail) : Type 0 where
  pub few : variables < 2 ^ 31
  pub right : AreClauses variables clauses
  pub same : trail.variables ≡ variables
