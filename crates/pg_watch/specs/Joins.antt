-- A clause leaves the fresh ones.
use Rattle.std.specs.Prelude.{◌≡◌, ◌≢◌, ℕ, ◌<◌, ◌≤◌, false, ℤ, List, length, take, Some}
use Rattle.pg_watch.specs.declared.lists.Watch.{Watch}
use Rattle.pg_watch.specs.declared.index.Pair.{Pair}
use Rattle.pg_watch.specs.Trail.{value_of}
use Rattle.pg_watch.specs.Watching.{literals_at, pair_at, HasTrue, IsPair, IsAttached}

-- a literal that may be watched: where it is false the clause has one that is true, and it is not false before a place
pub record MayWatch (set clause : List ℤ) (low : ℕ) (w : ℤ) : Type 0 where
  pub now : value_of set w ≡ Some false → HasTrue set clause
  pub below : (d : ℕ) → d ≤ low → value_of (take d set) w ≢ Some false

-- two literals that may be
pub record IsChoice (set clause : List ℤ) (low : ℕ) (p : Pair) : Type 0 where
  pub pair : IsPair clause p
  pub first : MayWatch set clause low p.first
  pub second : MayWatch set clause low p.second

-- what the others watch stays
pub record KeepsOthers (clauses : List (List ℤ)) (ls ms : List (List Watch)) (ps qs : List Pair) (k : ℕ) : Type 0 where
  pub attached : (j : ℕ) → j ≢ k → j < length clauses → IsAttached clauses ls ps j → IsAttached clauses ms qs j
  pub pairs : (j : ℕ) → j ≢ k → pair_at qs j ≡ pair_at ps j

-- the clause watches two that may be
pub record IsJoined (clauses : List (List ℤ)) (set : List ℤ) (ms : List (List Watch)) (qs : List Pair) (k low : ℕ) : Type 0 where
  pub attached : IsAttached clauses ms qs k
  pub choice : IsChoice set (literals_at clauses k) low (pair_at qs k)
