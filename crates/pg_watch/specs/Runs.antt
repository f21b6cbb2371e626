-- What comes of a run over the literals that were set.
use Rattle.std.specs.Prelude.{◌≡◌, ℕ, ◌<◌, ◌≤◌, ℤ, List, length}
use Rattle.pg_watch.specs.declared.lists.Watch.{Watch}
use Rattle.pg_watch.specs.declared.index.Pair.{Pair}
use Rattle.pg_watch.specs.declared.fix.Fix.{Fix}
use Rattle.pg_watch.specs.declared.fix.Fix.TheVariants.{Quiet, Conflict}
use Rattle.pg_watch.specs.Trail.{Trail, IsConflict}
use Rattle.pg_watch.specs.Fixes.{AreOpen}
use Rattle.pg_watch.specs.Watching.{IsAttached, IsGuarded, Keeps}

-- a literal that the clause watches is false among the first h only where the clause has one that is true
abbrev pub IsNow : List (List ℤ) → List ℤ → List Pair → ℕ → ℕ → Type 0
IsNow clauses set ps h k = IsGuarded clauses set ps h (length set) k

-- the head rises, and what holds of the literals before it is kept
pub record Runs (clauses : List (List ℤ)) (s t : Trail) (ls ms : List (List Watch)) (ps qs : List Pair) (h i : ℕ) : Type 0 where
  pub keeps : Keeps clauses s t ls ms ps qs
  pub rises : h ≤ i
  pub within : i ≤ length t.literals
  pub now : (k : ℕ) → k < length clauses → IsAttached clauses ls ps k → IsNow clauses s.literals ps h k → IsNow clauses t.literals qs i k

-- to the end of the trail, or to a clause that is falsified
abbrev pub IsRun : List (List ℤ) → List ℤ → ℕ → Fix → Type 0
IsRun clauses set i Quiet = (i ≡ length set)
IsRun clauses set i (Conflict number) = IsConflict clauses set number

-- and these clauses are open
pub record IsAllRun (clauses : List (List ℤ)) (set : List ℤ) (places : List ℕ) (i : ℕ) : Type 0 where
  pub whole : i ≡ length set
  pub opened : AreOpen clauses set places

abbrev pub IsSpread : List (List ℤ) → List ℤ → List ℕ → ℕ → Fix → Type 0
IsSpread clauses set places i Quiet = IsAllRun clauses set places i
IsSpread clauses set places i (Conflict number) = IsConflict clauses set number

-- one run to the end of the trail, and one look at each of these: where nothing more was set they are open
pub record IsTurn (clauses : List (List ℤ)) (s t : Trail) (places : List ℕ) (i : ℕ) : Type 0 where
  pub far : length s.literals ≤ i
  pub opened : length t.literals ≡ i → AreOpen clauses t.literals places

abbrev pub IsTurned : List (List ℤ) → Trail → Trail → List ℕ → ℕ → Fix → Type 0
IsTurned clauses s t places i Quiet = IsTurn clauses s t places i
IsTurned clauses s t places i (Conflict number) = IsConflict clauses t.literals number
