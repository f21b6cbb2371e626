-- What is kept of clauses, a trail, and what the clauses watch.
--
-- Each clause watches two of its literals, or is true for good, or stands among the fresh ones, which each settling looks at. Where a literal that
-- a clause watches is false and was propagated, the clause has one that is true: under the trail as it stands, and under each
-- shorter one that an undoing can leave, which ends before a literal that was assigned.
use Rattle.std.specs.Prelude.{◌≡◌, ◌⊎◌, ℕ, ◌<◌, ◌≤◌, Bool, true, ℤ, List, length, take, Contains}
use Rattle.pg_watch.specs.declared.lists.Watch.{Watch}
use Rattle.pg_watch.specs.declared.index.Pair.{Pair}
use Rattle.pg_watch.specs.Trail.{Trail, IsQuiet}
use Rattle.pg_watch.specs.Assigned.{IsAssigned}
use Rattle.pg_watch.specs.Fixes.{ArePlaces}
use Rattle.pg_watch.specs.Watching.{literals_at, HasTrue, IsAttached, IsGuarded, IsIndex}
use Rattle.pg_watch.specs.Runs.{IsNow}

pub record IsKept (clauses : List (List ℤ)) (trail : Trail) (lists : List (List Watch)) (pairs : List Pair) (head k : ℕ) : Type 0 where
  pub attached : IsAttached clauses lists pairs k
  pub now : IsNow clauses trail.literals pairs head k
  pub below : (d : ℕ) → IsAssigned trail d → IsGuarded clauses trail.literals pairs d d k

-- or it has a literal that is true under each of these trails
pub record IsSure (clauses : List (List ℤ)) (trail : Trail) (k : ℕ) : Type 0 where
  pub now : HasTrue trail.literals (literals_at clauses k)
  pub below : (d : ℕ) → IsAssigned trail d → HasTrue (take d trail.literals) (literals_at clauses k)

abbrev pub IsHeld : List (List ℤ) → Trail → List (List Watch) → List Pair → ℕ → ℕ → Type 0
IsHeld clauses trail lists pairs head k = IsKept clauses trail lists pairs head k ⊎ IsSure clauses trail k

pub record IsWatched (clauses : List (List ℤ)) (trail : Trail) (quiet : Bool) (fresh : List ℕ) (lists : List (List Watch)) (pairs : List Pair) (head : ℕ) : Type 0 where
  pub index : IsIndex clauses trail lists pairs
  pub quiet_right : quiet ≡ true → IsQuiet clauses trail.literals
  pub quiet_head : quiet ≡ true → head ≡ length trail.literals
  pub places : ArePlaces (length clauses) fresh
  pub within : head ≤ length trail.literals
  pub assigned : (d : ℕ) → IsAssigned trail d → d ≤ head
  pub kept : (k : ℕ) → k < length clauses → Contains fresh k ⊎ IsHeld clauses trail lists pairs head k
