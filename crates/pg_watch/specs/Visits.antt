-- What comes of a visit of a clause that watches a literal which is false.
use Rattle.std.specs.Prelude.{◌≡◌, ℕ, ◌+◌, ℤ, List}
use Rattle.pg_watch.specs.declared.lists.Watch.{Watch}
use Rattle.pg_watch.specs.declared.index.Pair.{Pair}
use Rattle.pg_watch.specs.declared.visit.Visit.{Visit}
use Rattle.pg_watch.specs.declared.visit.Visit.TheVariants.{Stays, Moved, Falsified}
use Rattle.pg_watch.specs.Trail.{IsConflict}
use Rattle.pg_watch.specs.Places.{place_of}
use Rattle.pg_watch.specs.Watching.{literals_at, pair_at, list_at, Has, HasTrue, IsSettled}

pub record HasStayed (clauses : List (List ℤ)) (set : List ℤ) (ls ms : List (List Watch)) (qs : List Pair) (gone : ℤ) (k : ℕ) : Type 0 where
  pub list : list_at ms (place_of gone) ≡ list_at ls (place_of gone)
  pub settled : IsSettled clauses set qs gone k

pub record HasMoved (ls ms : List (List Watch)) (qs : List Pair) (gone : ℤ) (k : ℕ) : Type 0 where
  pub list : list_at ms (place_of gone) ≡ list_at ls (place_of gone)
  pub away : Has (pair_at qs k) gone → ⊥

-- the clause has a literal that is true or does not watch the false one, watches another in its place, or is falsified
abbrev pub IsVisited : List (List ℤ) → List ℤ → List (List Watch) → List (List Watch) → List Pair → ℤ → ℕ → Visit → Type 0
IsVisited clauses set ls ms qs gone k Stays = HasStayed clauses set ls ms qs gone k
IsVisited clauses set ls ms qs gone k Moved = HasMoved ls ms qs gone k
IsVisited clauses set ls ms qs gone k Falsified = IsConflict clauses set (k + 1)

-- a clause of which one literal is left is true, or falsified
abbrev pub IsFollowed : List (List ℤ) → List ℤ → ℕ → Visit → Type 0
IsFollowed clauses set k Stays = HasTrue set (literals_at clauses k)
IsFollowed clauses set k Moved = ⊥
IsFollowed clauses set k Falsified = IsConflict clauses set (k + 1)
