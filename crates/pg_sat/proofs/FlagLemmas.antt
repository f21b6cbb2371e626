-- Flags of the literals that are wanted.
use Rattle.std.proofs.Common.{SFits, w32, zero, suc, ◌≡◌, ◌≢◌, ◌⊎◌, inl, inr, ℕ, ◌+◌, ◌*◌, ◌^◌, ◌<◌, Bool, true, false, ◌||◌, List, length, drop, set, refl, sym, ap, subst, ◌∙◌, arith, ℤ, pos, negsuc, neg_ℤ}
use Rattle.std.proofs.lemmas.List.{length-set, get_or-set_same, get_or-set_other, drop_more}
use Rattle.std.proofs.lemmas.Int.{ints}
use Rattle.pg_proof.specs.Places.{has, place, is_marked, IsWithin, AreWithin}
use Rattle.pg_proof.specs.Marked.{marked}
use Rattle.pg_proof.proofs.MarkedLemmas.{place-same, place-below, nat_abs-neg, length-marked, is_marked-marked}
use Rattle.pg_cnf.specs.Literals.{IsLiteral}
use Rattle.pg_sat.specs.Cut.{IsResolved}
use Rattle.pg_sat.proofs.ReadingLemmas.{first_of_two, second_of_two, one_of_two}
use Rattle.pg_sat.proofs.CutLemmas.{same_or_not}

pub IsWithin-neg : (n : ℕ) (z : ℤ) → IsWithin n z → IsWithin n (neg_ℤ z)
IsWithin-neg n z h = record {
  nonzero = subst (λ (k : ℕ). 0 < k) (sym (nat_abs-neg z)) h.nonzero;
  within = subst (λ (k : ℕ). 2 * k + 1 < n) (sym (nat_abs-neg z)) h.within;
}

-- the literals of a clause, one after another
pub within_next : (n : ℕ) (zs : List ℤ) (i : ℕ) → i < length zs → AreWithin n (drop i zs) → AreWithin n (drop (i + 1) zs)
within_next n zs i lt h = (subst (λ (ys : List ℤ). AreWithin n ys) (drop_more zs i (pos 0) lt) h).1

-- one flag taken down
unmarked-same : (flags : List Bool) (z : ℤ) → place z < length flags → is_marked (set flags (place z) false) z ≡ false
unmarked-same flags z lt = get_or-set_same flags (place z) false false lt

unmarked-other : (flags : List Bool) (z y : ℤ) → y ≢ z → is_marked (set flags (place z) false) y ≡ is_marked flags y
unmarked-other flags z y d = get_or-set_other flags (place z) (place y) false false (λ e. d (place-same y z e))

module _ (flags : List Bool) (c : List ℤ) (z : ℤ) (here : IsWithin (length flags) z) (within : AreWithin (length flags) c) where
  lowered : List Bool
  lowered = set flags (place (neg_ℤ z)) false

  raised : List Bool
  unfolding lowered
  raised = marked lowered c

  pub final : List Bool
  unfolding lowered raised
  final = set raised (place z) false

  length-lowered : length lowered ≡ length flags
  unfolding lowered
  length-lowered = length-set flags (place (neg_ℤ z)) false

  length-raised : length raised ≡ length flags
  unfolding lowered raised
  length-raised = length-marked c lowered ∙ length-lowered

  pub length-final : length final ≡ length flags
  unfolding lowered raised final
  length-final = length-set raised (place z) false ∙ length-raised

  raised-at : (y : ℤ) → is_marked raised y ≡ has c y || is_marked lowered y
  unfolding lowered raised
  raised-at y = λ i. is_marked-marked c lowered (is_marked lowered) (subst (λ (n : ℕ). AreWithin n c) (sym length-lowered) within) refl i y

  final-other : (y : ℤ) → y ≢ z → is_marked final y ≡ has c y || is_marked lowered y
  unfolding lowered raised final
  final-other y d = unmarked-other raised z y d ∙ raised-at y

  final-same : is_marked final z ≡ false
  unfolding lowered raised final
  final-same = unmarked-same raised z (subst (λ (n : ℕ). place z < n) (sym length-raised) (place-below (length flags) z here))

  lowered-same : is_marked lowered (neg_ℤ z) ≡ false
  unfolding lowered
  lowered-same = unmarked-same flags (neg_ℤ z) (place-below (length flags) (neg_ℤ z) (IsWithin-neg (length flags) z here))

  lowered-other : (y : ℤ) → y ≢ neg_ℤ z → is_marked lowered y ≡ is_marked flags y
  unfolding lowered
  lowered-other y d = unmarked-other flags (neg_ℤ z) y d

  not_same : (y : ℤ) → is_marked final y ≡ true → y ≢ z
  not_same y a e = let f : true ≡ false = sym a ∙ ap (is_marked final) e ∙ final-same in cc

  from-cases : (y : ℤ) → (has c y ≡ true) ⊎ (is_marked lowered y ≡ true) → (y ≡ neg_ℤ z) ⊎ (y ≢ neg_ℤ z) → (has c y ≡ true) ⊎ (is_marked flags y ≡ true)
  from-cases y (inl h) w = inl h
  from-cases y (inr m) (inl e) = absurd (let f : true ≡ false = sym m ∙ ap (is_marked lowered) e ∙ lowered-same in cc)
  from-cases y (inr m) (inr d) = inr (sym (lowered-other y d) ∙ m)

  from : (y : ℤ) → is_marked final y ≡ true → (has c y ≡ true) ⊎ (is_marked lowered y ≡ true)
  from y a = one_of_two (has c y) (is_marked lowered y) (sym (final-other y (not_same y a)) ∙ a)

  negation-cases : (has c (neg_ℤ z) ≡ true) ⊎ (is_marked lowered (neg_ℤ z) ≡ true) → has c (neg_ℤ z) ≡ true
  negation-cases (inl h) = h
  negation-cases (inr m) = absurd (let f : true ≡ false = sym m ∙ lowered-same in cc)

  pub IsResolved-flags : IsResolved (is_marked flags) (is_marked final) c z
  IsResolved-flags = record {
    either = λ y a. from-cases y (from y a) (same_or_not y (neg_ℤ z));
    neither = final-same;
    resolved = λ a. negation-cases (from (neg_ℤ z) a);
    others = λ y h d. final-other y d ∙ first_of_two (has c y) (is_marked lowered y) h;
    kept = λ y m d e. final-other y d ∙ second_of_two (has c y) (is_marked lowered y) (lowered-other y e ∙ m);
  }

-- as the code has them
module _ (old low mid new : List Bool) (p q : ℕ) (c : List ℤ) (z : ℤ) (e : p ≡ place (neg_ℤ z)) (f : q ≡ place z) (lowers : low ≡ set old p false)
    (raises : mid ≡ marked low c) where
  pub length-mid : length mid ≡ length old
  length-mid = ap length raises ∙ length-marked c low ∙ ap length lowers ∙ length-set old p false

  pub length-new : new ≡ set mid q false → length new ≡ length old
  length-new ends = ap length ends ∙ length-set mid q false ∙ length-mid

  pub flags-resolved : IsWithin (length old) z → AreWithin (length old) c → new ≡ set mid q false → IsResolved (is_marked old) (is_marked new) c z
  unfolding final raised lowered
  flags-resolved here within ends =
      let whole : new ≡ final old c z here within =
      ends ∙ ap (λ (k : ℕ). set mid k false) f
      ∙ ap (λ (fs : List Bool). set fs (place z) false) (raises ∙ ap (λ (fs : List Bool). marked fs c) (lowers ∙ ap (λ (k : ℕ). set old k false) e)) in
      subst (λ (fs : List Bool). IsResolved (is_marked old) (is_marked fs) c z) (sym whole) (IsResolved-flags old c z here within)
