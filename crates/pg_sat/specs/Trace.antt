-- What a conflict is traced back to.
use Rattle.std.specs.Prelude.{◌≡◌, ℕ, ◌+◌, ◌*◌, ◌^◌, ◌<◌, ◌≤◌, ◌++◌, Bool, true, false, ℤ, pos, neg_ℤ, List, length, map, take, reverse, None, Some, slice_index_or}
use Rattle.pg_cnf.specs.Literals.{AreClauses}
use Rattle.pg_proof.specs.Places.{is_marked}
use Rattle.pg_watch.specs.Trail.{Trail, value_of}
use Rattle.pg_sat.specs.Cut.{IsCut}

-- flags of the literals of a cut, and its hints, the last one first
pub record IsTraced (variables : ℕ) (clauses : List (List ℤ)) (set : List ℤ) (flags : List Bool) (hints : List ℕ) : Type 0 where
  pub places : length flags ≡ 2 * variables + 2
  pub cut : IsCut (map Some clauses) set (is_marked flags) (reverse hints)

-- none of the literals at these places is to blame: the flags of their negations are down
abbrev pub AreDown : List Bool → List ℤ → ℕ → ℕ → Type 0
AreDown flags literals low at = (k : ℕ) → low ≤ k → k < at → is_marked flags (neg_ℤ (slice_index_or literals k (pos 0))) ≡ false

-- a trace that ends at a place, where no other literal from a lower place on is left
pub record IsLone (variables : ℕ) (clauses : List (List ℤ)) (literals : List ℤ) (low place : ℕ) (flags : List Bool) (hints : List ℕ) : Type 0 where
  pub from : low ≤ place
  pub there : place < length literals
  pub traced : IsTraced variables clauses (take (place + 1) literals) flags hints
  pub alone : AreDown flags literals low place

-- a trace that went back to a place: of the literals from there on some are still set, the rest
pub record IsThin (variables : ℕ) (clauses : List (List ℤ)) (literals : List ℤ) (at : ℕ) (flags : List Bool) (hints : List ℕ) : Type 0 where
  pub rest : List ℤ
  pub apart : (k : ℕ) → k < at → value_of rest (slice_index_or literals k (pos 0)) ≡ None
  pub traced : IsTraced variables clauses (take at literals ++ rest) flags hints

-- no more literals are wanted than before, and one still is
pub record AreFewer (before after : List Bool) (z : ℤ) : Type 0 where
  pub fewer : (y : ℤ) → is_marked after y ≡ true → is_marked before y ≡ true
  pub kept : is_marked before z ≡ true → is_marked after z ≡ true
