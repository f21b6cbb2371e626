-- Where the trail is cut after a conflict.
use Rattle.std.proofs.Common.{◌≡◌, ◌≢◌, ◌⊎◌, inl, inr, ℕ, ◌+◌, ◌<◌, ◌≤◌, Bool, true, false, List, ◌++◌, length, get_or, take, drop, Option, Some, None, slice_get, refl, sym, ap, subst, ◌∙◌, arith, ℤ, pos, neg_ℤ}
use Rattle.std.proofs.lemmas.List.{take-take, take_more, take-append-drop, drop_more}
use Rattle.std.proofs.lemmas.Option.{slice_get-get_or}
use Rattle.std.proofs.lemmas.Bool.{cases_lt}
use Rattle.pg_watch.specs.Trail.{Trail, value_of, IsTrail, IsOpen, IsUnit, AreDerived, IsSomeNumber}
use Rattle.pg_watch.specs.Assigned.{IsAssigned}
use Rattle.pg_watch.proofs.Values.{value_of-after_some, value_of-unset_neg, value_of-push_neg}
use Rattle.pg_proof.specs.Places.{has}
use Rattle.pg_sat.specs.Learned.{IsAsserting}
use Rattle.pg_sat.specs.Jump.{IsLast, IsJump}
use Rattle.pg_sat.proofs.CutLemmas.{same_or_not, none-differs}
use Rattle.pg_sat.proofs.TrailLemmas.{IsAt, AreSet-at, AreFalse-has, AreFalseBut-has}

-- the last one assigned
pub derived-more : (rs : List (Option ℕ)) (at : ℕ) (n : ℕ) → at < length rs → get_or rs at None ≡ Some n → AreDerived (drop (at + 1) rs) → AreDerived (drop at rs)
derived-more rs at n lt e h =
    subst AreDerived (sym (drop_more rs at None lt)) (subst IsSomeNumber (sym e) tt, h)

pub last-here : (t : Trail) (at : ℕ) → at < length t.reasons → get_or t.reasons at None ≡ None → AreDerived (drop (at + 1) t.reasons) → IsLast t at
last-here t at lt e h = record { assigned = slice_get-get_or t.reasons at None lt ∙ ap Some e; propagated = h }

-- what is unset was before
none_before : (xs ys : List ℤ) (z : ℤ) (o : Option Bool) → value_of xs z ≡ o → value_of (xs ++ ys) z ≡ None → o ≡ None
none_before xs ys z None e h = refl
none_before xs ys z (Some v) e h = absurd (let f : None ≡ Some v = sym h ∙ value_of-after_some xs ys z v e in cc)

pub unset_front : (set : List ℤ) (d n : ℕ) (z : ℤ) → d ≤ n → value_of (take n set) z ≡ None → value_of (take d set) z ≡ None
unset_front set d n z le h =
    let front : take d (take n set) ≡ take d set = take-take d n set le in
    none_before (take d set) (drop d (take n set)) z (value_of (take d set) z) refl
    (ap (λ (xs : List ℤ). value_of (xs ++ drop d (take n set)) z) (sym front) ∙ ap (λ (xs : List ℤ). value_of xs z) (take-append-drop d (take n set)) ∙ h)

pub set_back : (set : List ℤ) (d n : ℕ) (z : ℤ) (v : Bool) → d ≤ n → value_of (take d set) z ≡ Some v → value_of (take n set) z ≡ Some v
set_back set d n z v le h =
    let front : take d (take n set) ≡ take d set = take-take d n set le in
    ap (λ (xs : List ℤ). value_of xs z) (sym (take-append-drop d (take n set)))
    ∙ ap (λ (xs : List ℤ). value_of (xs ++ drop d (take n set)) z) front
    ∙ value_of-after_some (take d set) (drop d (take n set)) z v h

-- a clause with two literals that are unset is open
unit-no : (set lits : List ℤ) (u w x : ℤ) → u ≢ w → has lits u ≡ true → has lits w ≡ true → value_of set u ≡ None → value_of set w ≡ None → IsUnit set lits x → (u ≡ x) ⊎ (u ≢ x) → ⊥
unit-no set lits u w x d hu hw nu nw h (inl e) = none-differs (value_of set w) false nw (AreFalseBut-has set x lits w h.others hw (λ s. d (e ∙ sym s)))
unit-no set lits u w x d hu hw nu nw h (inr e) = none-differs (value_of set u) false nu (AreFalseBut-has set x lits u h.others hu e)

pub open_two : (set lits : List ℤ) (u w : ℤ) → u ≢ w → has lits u ≡ true → has lits w ≡ true → value_of set u ≡ None → value_of set w ≡ None → IsOpen set lits
open_two set lits u w d hu hw nu nw = record {
  not_falsified = λ h. none-differs (value_of set u) false nu (AreFalse-has set lits u h hu);
  not_unit = λ x h. unit-no set lits u w x d hu hw nu nw h (same_or_not u x);
}

-- none that was assigned stands between
abbrev pub NoneBetween : Trail → ℕ → ℕ → Type 0
NoneBetween t at jump = (d : ℕ) → IsAssigned t d → at ≤ d → jump ≤ d

pub cases_le : (a d : ℕ) → a ≤ d → (a ≡ d) ⊎ (a + 1 ≤ d)
cases_le a d le = by (cases_lt a d)
  where
    by : (a < d) ⊎ (d ≤ a) → (a ≡ d) ⊎ (a + 1 ≤ d)
    by (inl h) = inr (omega arith)
    by (inr h) = inl (omega arith)

pub none_more : (t : Trail) (at jump n : ℕ) → at < length t.reasons → get_or t.reasons at None ≡ Some n → NoneBetween t (at + 1) jump → NoneBetween t at jump
none_more t at jump n lt e h d a le = by (cases_le at d le)
  where
    by : (at ≡ d) ⊎ (at + 1 ≤ d) → jump ≤ d
    by (inl s) =
        absurd (let f : Some (Some n) ≡ Some None = ap Some (sym e) ∙ sym (slice_get-get_or t.reasons at None lt) ∙ ap (slice_get t.reasons) s ∙ a in cc)
    by (inr l) = h d a l

-- all that were assigned stand behind it
pub all_later : (t : Trail) (at n : ℕ) → at < length t.reasons → get_or t.reasons at None ≡ Some n → ((d : ℕ) → IsAssigned t d → at ≤ d) →
    (d : ℕ) → IsAssigned t d → at + 1 ≤ d
all_later t at n lt e h d a = by (cases_le at d (h d a))
  where
    by : (at ≡ d) ⊎ (at + 1 ≤ d) → at + 1 ≤ d
    by (inl s) =
        absurd (let f : Some (Some n) ≡ Some None = ap Some (sym e) ∙ sym (slice_get-get_or t.reasons at None lt) ∙ ap (slice_get t.reasons) s ∙ a in cc)
    by (inr l) = l

-- the literal at a place is wanted
module _ (cs : List (List ℤ)) (t : Trail) (lits : List ℤ) (last at jump : ℕ) (z : ℤ) (right : IsTrail cs t) (lt : last < length t.literals)
    (asserts : IsAsserting (take last t.literals) z lits) (below : at < last) (assigned : IsAssigned t jump)
    (between : NoneBetween t (at + 1) jump) where
  abbrev here : ℤ
  here = get_or t.literals at (pos 0)

  abbrev uip : ℤ
  uip = neg_ℤ z

  at_here : IsAt t.variables (take at t.literals) here
  at_here = AreSet-at t.variables t.literals at (pos 0) right.set (omega arith)

  neg_false : value_of (take last t.literals) (neg_ℤ here) ≡ Some false
  neg_false =
      set_back t.literals (at + 1) last (neg_ℤ here) false (omega arith)
      (ap (λ (xs : List ℤ). value_of xs (neg_ℤ here)) (take_more t.literals at (pos 0) (omega arith))
      ∙ value_of-push_neg (take at t.literals) here at_here.literal.0 at_here.unset)

  differ : uip ≢ neg_ℤ here
  differ e = none-differs (value_of (take last t.literals) uip) false asserts.unset (ap (value_of (take last t.literals)) e ∙ neg_false)

  neg_unset : value_of (take at t.literals) (neg_ℤ here) ≡ None
  neg_unset = value_of-unset_neg (take at t.literals) here at_here.literal.0 at_here.unset

  opened : has lits (neg_ℤ here) ≡ true → (d : ℕ) → IsAssigned t d → d < jump → (d ≤ at) ⊎ (at + 1 ≤ d) → IsOpen (take d t.literals) lits
  opened h d a less (inl le) =
      open_two (take d t.literals) lits uip (neg_ℤ here) differ asserts.there h
      (unset_front t.literals d last uip (omega arith) asserts.unset) (unset_front t.literals d at (neg_ℤ here) le neg_unset)
  opened h d a less (inr le) = absurd (let k : jump ≤ d = between d a le in omega arith)

  le_or : (d : ℕ) → (d ≤ at) ⊎ (at + 1 ≤ d)
  le_or d = by (cases_lt at d)
    where
      by : (at < d) ⊎ (d ≤ at) → (d ≤ at) ⊎ (at + 1 ≤ d)
      by (inl h) = inr (omega arith)
      by (inr h) = inl h

  pub jump_wanted : has lits (neg_ℤ (get_or t.literals at (pos 0))) ≡ true → IsJump t lits jump
  jump_wanted h = record { assigned = assigned; opened = λ d a less. opened h d a less (le_or d) }

pub jump_first : (t : Trail) (lits : List ℤ) (jump : ℕ) → IsAssigned t jump → NoneBetween t 0 jump → IsJump t lits jump
jump_first t lits jump a b = record { assigned = a; opened = λ d e less. absurd (let k : jump ≤ d = b d e (omega arith) in omega arith) }
