-- What comes of a walk over the clauses that watch a literal which is false.
use Rattle.std.specs.Prelude.{◌≡◌, ℕ, ◌+◌, ◌<◌, ℤ, List, length}
use Rattle.pg_watch.specs.declared.lists.Watch.{Watch}
use Rattle.pg_watch.specs.declared.index.Pair.{Pair}
use Rattle.pg_watch.specs.declared.fix.Fix.{Fix}
use Rattle.pg_watch.specs.declared.fix.Fix.TheVariants.{Quiet, Conflict}
use Rattle.pg_watch.specs.declared.walk.Step.{Step}
use Rattle.pg_watch.specs.declared.walk.Step.TheVariants.{Stays, Leaves, Ends}
use Rattle.pg_watch.specs.Trail.{IsConflict}
use Rattle.pg_watch.specs.Places.{place_of}
use Rattle.pg_watch.specs.Watching.{list_at, entry_at, IsAttached, IsSettled}
use Rattle.pg_watch.specs.Visits.{HasStayed}

-- the entry leaves the list, and those before it stay
pub record HasLeft (ls ms : List (List Watch)) (place at : ℕ) : Type 0 where
  pub shorter : length (list_at ms place) + 1 ≡ length (list_at ls place)
  pub before : (i : ℕ) → i < at → entry_at ms place i ≡ entry_at ls place i

abbrev pub IsStepped : List (List ℤ) → List ℤ → List (List Watch) → List (List Watch) → List Pair → ℤ → ℕ → Step → Type 0
IsStepped clauses set ls ms qs gone at Stays = HasStayed clauses set ls ms qs gone (entry_at ls (place_of gone) at).clause
IsStepped clauses set ls ms qs gone at Leaves = HasLeft ls ms (place_of gone) at
IsStepped clauses set ls ms qs gone at (Ends number) = IsConflict clauses set number

-- each clause that watches the literal has one that is true, or one is falsified
abbrev pub IsWalked : List (List ℤ) → List ℤ → List (List Watch) → List Pair → ℤ → Fix → Type 0
IsWalked clauses set ms qs gone Quiet =
    (k : ℕ) → k < length clauses → IsAttached clauses ms qs k → IsSettled clauses set qs gone k
IsWalked clauses set ms qs gone (Conflict number) = IsConflict clauses set number
