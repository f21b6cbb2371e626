-- Where propagation ends.
use Rattle.std.specs.Prelude.{◌≡◌, ◌<◌, ℕ, ◌+◌, Bool, true, false, ⊤, ℤ, List, [], ◌∷◌, length}
use Rattle.pg_watch.specs.declared.fix.Fix.{Fix}
use Rattle.pg_watch.specs.declared.fix.Fix.TheVariants.{Quiet, Conflict}
use Rattle.pg_watch.specs.Trail.{Trail, Extends, IsTrail, IsQuiet, IsOpen, IsConflict, clause_at}

-- with nothing left, or at a clause that is falsified
abbrev pub IsEnd : List (List ℤ) → List ℤ → Fix → Type 0
IsEnd clauses set Quiet = IsQuiet clauses set
IsEnd clauses set (Conflict number) = IsConflict clauses set number

abbrev pub is_quiet : Fix → Bool
is_quiet Quiet = true
is_quiet (Conflict number) = false

-- a trail with further literals is one still
pub record Steps (clauses : List (List ℤ)) (old new : Trail) : Type 0 where
  pub extends : Extends old new
  pub trail : IsTrail clauses new

-- places of clauses, counted from 0
abbrev pub ArePlaces : ℕ → List ℕ → Type 0
ArePlaces clauses [] = ⊤
ArePlaces clauses (k ∷ ks) = (k < clauses) × ArePlaces clauses ks

-- the clauses at these places are open
abbrev pub AreOpen : List (List ℤ) → List ℤ → List ℕ → Type 0
AreOpen clauses set [] = ⊤
AreOpen clauses set (k ∷ ks) = IsOpen set (clause_at clauses (k + 1)) × AreOpen clauses set ks

-- one look at one of them: where nothing was set it is open
pub record IsLeft (clauses : List (List ℤ)) (old new : Trail) (place : ℕ) : Type 0 where
  pub same : new ≡ old
  pub opened : IsOpen new.literals (clause_at clauses (place + 1))

abbrev pub IsLooked : List (List ℤ) → Trail → Trail → ℕ → Fix → Type 0
IsLooked clauses old new place Quiet = (length new.literals ≡ length old.literals → IsLeft clauses old new place)
IsLooked clauses old new place (Conflict number) = IsConflict clauses new.literals number

-- one look at each of them: where nothing was set they are all open
abbrev pub AreSeen : List (List ℤ) → Trail → Trail → List ℕ → Fix → Type 0
AreSeen clauses old new places Quiet = (length new.literals ≡ length old.literals → AreOpen clauses new.literals places)
AreSeen clauses old new places (Conflict number) = IsConflict clauses new.literals number
