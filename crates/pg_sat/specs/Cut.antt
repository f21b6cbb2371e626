-- Cuts: literals that are false, from whose negations a clause follows to be false.
use Rattle.std.specs.Prelude.{◌≡◌, ◌≢◌, ◌⊎◌, ℕ, Bool, true, false, ℤ, neg_ℤ, List, Option, None, Some}
use Rattle.pg_watch.specs.Trail.{value_of}
use Rattle.pg_proof.specs.Places.{has}
use Rattle.pg_proof.specs.Refutation.{walk}
use Rattle.pg_proof.specs.Tight.{hint_clauses, stands_in, sets_used}

-- these literals are true
abbrev pub AreTrue : List ℤ → List ℤ → Type 0
AreTrue set trail = (z : ℤ) → has trail z ≡ true → value_of set z ≡ Some true

-- their negations are all among those set true
abbrev pub AreDenied : (ℤ → Bool) → List ℤ → Type 0
AreDenied wanted trail = (y : ℤ) → wanted y ≡ true → has trail (neg_ℤ y) ≡ true

-- from literals that are set true the hints lead to a clause that is false, and each literal that one of them sets is used
pub record Leads (held : List (Option (List ℤ))) (trail : List ℤ) (hints : List ℕ) : Type 0 where
  pub walks : walk held trail hints ≡ None
  pub used : sets_used trail (hint_clauses held hints) ≡ true

-- the wanted literals are false, stand in clauses of the hints, and from their negations the hints lead to a clause that is
-- false, whatever else is set that is true
pub record IsCut (held : List (Option (List ℤ))) (set : List ℤ) (wanted : ℤ → Bool) (hints : List ℕ) : Type 0 where
  pub are_false : (y : ℤ) → wanted y ≡ true → value_of set y ≡ Some false
  pub standing : (y : ℤ) → wanted y ≡ true → stands_in (hint_clauses held hints) y ≡ true
  pub leads : (trail : List ℤ) → AreTrue set trail → AreDenied wanted trail → Leads held trail hints

-- in place of the negation of a literal, the other literals of a clause that has it are wanted
pub record IsResolved (before after : ℤ → Bool) (clause : List ℤ) (z : ℤ) : Type 0 where
  pub either : (y : ℤ) → after y ≡ true → (has clause y ≡ true) ⊎ (before y ≡ true)
  pub neither : after z ≡ false
  pub resolved : after (neg_ℤ z) ≡ true → has clause (neg_ℤ z) ≡ true
  pub others : (y : ℤ) → has clause y ≡ true → y ≢ z → after y ≡ true
  pub kept : (y : ℤ) → before y ≡ true → y ≢ z → y ≢ neg_ℤ z → after y ≡ true
