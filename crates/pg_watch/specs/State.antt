-- What the watches hold, as contracts see it.
use Rattle.std.specs.Prelude.{Bool, ℤ, List}
use Rattle.pg_watch.specs.Trail.{Trail}

-- the clauses, what is set, and whether nothing is left to propagate
pub record State : Type 0 where
  pub clauses : List (List ℤ)
  pub trail : Trail
  pub quiet : Bool
