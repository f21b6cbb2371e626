-- Where the trail is cut after a conflict.
use Rattle.std.specs.Prelude.{ℕ, ◌+◌, ◌<◌, ℤ, List, take, drop}
use Rattle.pg_watch.specs.Trail.{Trail, IsOpen, AreDerived}
use Rattle.pg_watch.specs.Assigned.{IsAssigned}

-- the last literal that was assigned
pub record IsLast (trail : Trail) (place : ℕ) : Type 0 where
  pub assigned : IsAssigned trail place
  pub propagated : AreDerived (drop (place + 1) trail.reasons)

-- a literal was assigned there, and before each that was assigned earlier the clause is neither falsified nor unit
pub record IsJump (trail : Trail) (lits : List ℤ) (place : ℕ) : Type 0 where
  pub assigned : IsAssigned trail place
  pub opened : (d : ℕ) → IsAssigned trail d → d < place → IsOpen (take d trail.literals) lits
