-- Clauses that are part of others: what is covered says no more than a clause that is held.
use Rattle.std.specs.Prelude.{◌≡◌, ℕ, zero, suc, ◌+◌, ◌≤◌, Bool, true, false, nat_eq, ℤ, List, [], ◌∷◌, length, map, Option, None, Some, slice_get, slice_index_or, slice_set}
use Rattle.std.specs.List.{list_any, list_all}
use Rattle.pg_proof.specs.Places.{has, place}
use Rattle.pg_proof.specs.State.{clause_at}

-- each literal of a clause that is held passes a test
abbrev pub passes : (ℤ → Bool) → Option (List ℤ) → Bool
passes test None = false
passes test (Some c) = list_all test c

-- some clause held has no literal but these
abbrev pub is_covered : List (Option (List ℤ)) → List ℤ → Bool
is_covered held lits = list_any (passes (has lits)) held

-- the place of the list in which a clause hangs: that of its first literal, and 0 for the empty clause
abbrev pub home : List ℤ → ℕ
home [] = 0
home (z ∷ zs) = place z

-- the list that begins with a number, where each number, from 1 on, links to the one that hung before it; 0 ends it. It has so
-- many numbers at most
abbrev pub chain : ℕ → List ℕ → ℕ → List ℕ
chain zero links n = []
chain (suc most) links zero = []
chain (suc most) links (suc k) = suc k ∷ chain most links (slice_index_or links k 0)

-- the lists of all places, each by the number that hung last
abbrev pub hung_of : List ℕ → List ℕ → List (List ℕ)
hung_of heads links = map (λ n. chain n links n) heads

-- a number more in the list at a place
abbrev pub with_hung : List (List ℕ) → ℕ → ℕ → List (List ℕ)
with_hung hung p n = slice_set hung p (n ∷ slice_index_or hung p [])

abbrev pub is_listed : List ℕ → ℕ → Bool
is_listed numbers n = list_any (λ m. nat_eq m n) numbers

-- each clause held is listed, by its number, at its home
abbrev pub AreHung : List (List ℕ) → List (Option (List ℤ)) → Type 0
AreHung hung held = (k : ℕ) (c : List ℤ) → slice_get held k ≡ Some (Some c) → is_listed (slice_index_or hung (home c) []) (k + 1) ≡ true

-- each number links to a lesser one
abbrev pub AreLinksBelow : List ℕ → Type 0
AreLinksBelow links = (k : ℕ) → slice_index_or links k 0 ≤ k

-- no list has a number above a greatest, and each up to that has a link
pub record AreLinked (heads links : List ℕ) (most : ℕ) : Type 0 where
  pub first : (p : ℕ) → slice_index_or heads p 0 ≤ most
  pub below : AreLinksBelow links
  pub room : most ≤ length links

-- where the lists are made, every clause held hangs
pub record IsHung (heads links : List ℕ) (made : Bool) (held : List (Option (List ℤ))) : Type 0 where
  pub linked : AreLinked heads links (length held)
  pub hangs : made ≡ true → AreHung (hung_of heads links) held

-- whether a clause of one of some numbers passes
abbrev pub list_passes : (ℤ → Bool) → List (Option (List ℤ)) → List ℕ → Bool
list_passes test held numbers = list_any (λ n. passes test (clause_at held n)) numbers

-- the same in the list at a place
abbrev pub place_passes : (ℤ → Bool) → List (Option (List ℤ)) → List (List ℕ) → ℕ → Bool
place_passes test held hung p = list_passes test held (slice_index_or hung p [])
