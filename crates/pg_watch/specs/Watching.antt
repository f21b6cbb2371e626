-- What the watches of clauses keep.
use Rattle.std.specs.Prelude.{◌≡◌, ◌≢◌, ◌⊎◌, ℕ, ◌+◌, ◌-◌, ◌*◌, ◌^◌, ◌<◌, ◌≤◌, true, false, ℤ, pos, List, [], length, take, Some, Contains, slice_index_or}
use Rattle.pg_watch.specs.declared.lists.Watch.{Watch}
use Rattle.pg_watch.specs.declared.index.Pair.{Pair}
use Rattle.pg_cnf.specs.Literals.{AreClauses}
use Rattle.pg_watch.specs.Trail.{Trail, value_of, IsTrail}
use Rattle.pg_watch.specs.Fixes.{Steps}
use Rattle.pg_watch.specs.Places.{place_of}

-- the pair of a clause that watches none
abbrev pub no_pair : Pair
no_pair = record { first = pos 0; second = pos 0 }

abbrev pub no_watch : Watch
no_watch = record { clause = 0; blocker = pos 0 }

abbrev pub literals_at : List (List ℤ) → ℕ → List ℤ
literals_at clauses k = slice_index_or clauses k []

abbrev pub pair_at : List Pair → ℕ → Pair
pair_at pairs k = slice_index_or pairs k no_pair

abbrev pub list_at : List (List Watch) → ℕ → List Watch
list_at lists at = slice_index_or lists at []

abbrev pub entry_at : List (List Watch) → ℕ → ℕ → Watch
entry_at lists at j = slice_index_or (list_at lists at) j no_watch

-- one of its literals is true
pub record HasTrue (set clause : List ℤ) : Type 0 where
  pub which : ℤ
  pub there : Contains clause which
  pub holds : value_of set which ≡ Some true

-- two literals of the clause
pub record IsPair (clause : List ℤ) (p : Pair) : Type 0 where
  pub first : Contains clause p.first
  pub second : Contains clause p.second
  pub apart : p.first ≢ p.second

abbrev pub Has : Pair → ℤ → Type 0
Has p w = (p.first ≡ w) ⊎ (p.second ≡ w)

-- a clause that watches a literal watches two
abbrev pub ArePairs : List (List ℤ) → List Pair → Type 0
ArePairs clauses pairs =
    (k : ℕ) → k < length clauses → (w : ℤ) → w ≢ pos 0 → Has (pair_at pairs k) w → IsPair (literals_at clauses k) (pair_at pairs k)

-- each blocker is a literal of its clause
pub record IsEntry (clauses : List (List ℤ)) (w : Watch) : Type 0 where
  pub clause : w.clause < length clauses
  pub blocker : Contains (literals_at clauses w.clause) w.blocker

abbrev pub AreEntries : List (List ℤ) → List (List Watch) → Type 0
AreEntries clauses lists = (at j : ℕ) → j < length (list_at lists at) → IsEntry clauses (entry_at lists at j)

-- the clause stands in the list
pub record IsListed (lists : List (List Watch)) (at k : ℕ) : Type 0 where
  pub place : ℕ
  pub within : place < length (list_at lists at)
  pub same : (entry_at lists at place).clause ≡ k

-- the clause watches two of its literals, and stands in the lists of both
pub record IsAttached (clauses : List (List ℤ)) (lists : List (List Watch)) (pairs : List Pair) (k : ℕ) : Type 0 where
  pub pair : IsPair (literals_at clauses k) (pair_at pairs k)
  pub first : IsListed lists (place_of (pair_at pairs k).first) k
  pub second : IsListed lists (place_of (pair_at pairs k).second) k

-- where a literal is false among the first h that are set, the clause has one that is true among the first n
abbrev pub Guards : List ℤ → ℕ → ℕ → List ℤ → ℤ → Type 0
Guards set h n clause w = (value_of (take h set) w ≡ Some false → HasTrue (take n set) clause)

abbrev pub IsGuarded : List (List ℤ) → List ℤ → List Pair → ℕ → ℕ → ℕ → Type 0
IsGuarded clauses set pairs h n k =
    Guards set h n (literals_at clauses k) (pair_at pairs k).first × Guards set h n (literals_at clauses k) (pair_at pairs k).second

-- where the clause watches a literal, it has one that is true
abbrev pub IsSettled : List (List ℤ) → List ℤ → List Pair → ℤ → ℕ → Type 0
IsSettled clauses set pairs w k = (Has (pair_at pairs k) w → HasTrue set (literals_at clauses k))

-- what a step of propagation leaves as it was
pub record Keeps (clauses : List (List ℤ)) (s t : Trail) (ls ms : List (List Watch)) (ps qs : List Pair) : Type 0 where
  pub steps : Steps clauses s t
  pub lists_long : length ms ≡ length ls
  pub pairs_long : length qs ≡ length ps
  pub entries : AreEntries clauses ls → AreEntries clauses ms
  pub pairs : ArePairs clauses ps → ArePairs clauses qs
  pub attached : (k : ℕ) → k < length clauses → IsAttached clauses ls ps k → IsAttached clauses ms qs k
  pub guarded : (k h n : ℕ) → k < length clauses → h ≤ length s.literals → n ≤ length s.literals →
      IsGuarded clauses s.literals ps h n k → IsGuarded clauses t.literals qs h n k
  pub settled : (k : ℕ) (w : ℤ) → k < length clauses → value_of s.literals w ≡ Some false →
      IsSettled clauses s.literals ps w k → IsSettled clauses t.literals qs w k

-- what holds of clauses, the trail, and what the clauses watch, all the while
pub record IsIndex (clauses : List (List ℤ)) (t : Trail) (ls : List (List Watch)) (ps : List Pair) : Type 0 where
  pub right : AreClauses t.variables clauses
  pub few : length clauses < 2 ^ 32 - 1
  pub trail : IsTrail clauses t
  pub lists_long : length ls ≡ 2 * t.variables + 2
  pub pairs_long : length ps ≡ length clauses
  pub entries : AreEntries clauses ls
  pub pairs : ArePairs clauses ps
