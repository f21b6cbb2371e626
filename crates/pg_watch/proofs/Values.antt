-- The values of literals under more and under fewer literals that are set.
use Rattle.std.proofs.Common.{◌≡◌, ◌≢◌, ℕ, zero, suc, ◌<◌, ◌⊎◌, inl, inr, length, take, get_or, Bool, true, false, not, cond, ℤ, pos, negsuc, neg_ℤ, nat_abs, List, [], ◌∷◌, ◌++◌, Option, None, Some, refl, sym, ap, ◌∙◌, arith}
use Rattle.std.specs.Ordering.{int_eq}
use Rattle.std.specs.Option.{option_map}
use Rattle.std.proofs.lemmas.Bool.Decides.{Decides-int_eq}
use Rattle.std.proofs.Math.IntN.{neg_ℤ-neg_ℤ}
use Rattle.pg_watch.specs.Trail.{value_of}

pub some≢none : {A : Type 0} (x : A) → Some x ≡ None → ⊥
some≢none x e = cc

-- one literal more
step_none : (a b : Bool) (o p w : Option Bool) → cond a (Some true) (cond b (Some false) o) ≡ None → (o ≡ None → p ≡ w) →
    cond a (Some true) (cond b (Some false) p) ≡ w
step_none true b o p w e h = absurd (some≢none true e)
step_none false true o p w e h = absurd (some≢none false e)
step_none false false o p w e h = h e

pub value_of-after_none : (xs ys : List ℤ) (z : ℤ) → value_of xs z ≡ None → value_of (xs ++ ys) z ≡ value_of ys z
value_of-after_none [] ys z e = refl
value_of-after_none (x ∷ xs) ys z e =
    step_none (int_eq x z) (int_eq x (neg_ℤ z)) (value_of xs z) (value_of (xs ++ ys) z) (value_of ys z) e (value_of-after_none xs ys z)

step_some : (a b : Bool) (o p : Option Bool) (v : Bool) → cond a (Some true) (cond b (Some false) o) ≡ Some v → (o ≡ Some v → p ≡ Some v) →
    cond a (Some true) (cond b (Some false) p) ≡ Some v
step_some true b o p v e h = e
step_some false true o p v e h = e
step_some false false o p v e h = h e

pub value_of-after_some : (xs ys : List ℤ) (z : ℤ) (v : Bool) → value_of xs z ≡ Some v → value_of (xs ++ ys) z ≡ Some v
value_of-after_some [] ys z v e = cc
value_of-after_some (x ∷ xs) ys z v e =
    step_some (int_eq x z) (int_eq x (neg_ℤ z)) (value_of xs z) (value_of (xs ++ ys) z) v e (value_of-after_some xs ys z v)

-- the negation of a literal has the other value
pub neg-differs : (z : ℤ) → 0 < nat_abs z → z ≢ neg_ℤ z
neg-differs (pos zero) h e = omega arith
neg-differs (pos (suc n)) h e = cc
neg-differs (negsuc n) h e = cc

flipped : (a b : Bool) (o p : Option Bool) → (a ≡ true → b ≡ true → ⊥) → p ≡ option_map not o →
    cond b (Some true) (cond a (Some false) p) ≡ option_map not (cond a (Some true) (cond b (Some false) o))
flipped true true o p h e = absurd (h refl refl)
flipped true false o p h e = refl
flipped false true o p h e = refl
flipped false false o p h e = e

pub value_of-neg : (xs : List ℤ) (z : ℤ) → 0 < nat_abs z → value_of xs (neg_ℤ z) ≡ option_map not (value_of xs z)
value_of-neg [] z h = refl
value_of-neg (x ∷ xs) z h =
    rw neg_ℤ-neg_ℤ
    (flipped (int_eq x z) (int_eq x (neg_ℤ z)) (value_of xs z) (value_of xs (neg_ℤ z))
    (λ e f. neg-differs z h (sym ((Decides-int_eq x z).0 e) ∙ (Decides-int_eq x (neg_ℤ z)).0 f)) (value_of-neg xs z h))

equal-true : (b : Bool) {P : Type 0} (p : P) (back : P → b ≡ true) → b ≡ true
equal-true b p back = back p

not_true : (b : Bool) → (b ≡ true → ⊥) → b ≡ false
not_true true h = absurd (h refl)
not_true false h = refl

pub int_eq-other : (x z : ℤ) → x ≢ z → int_eq x z ≡ false
int_eq-other x z h = not_true (int_eq x z) (λ e. h ((Decides-int_eq x z).0 e))

pub int_eq-same : (z : ℤ) → int_eq z z ≡ true
int_eq-same z = (Decides-int_eq z z).1 refl

-- a literal that is set
pub value_of-one : (z : ℤ) → value_of (z ∷ []) z ≡ Some true
value_of-one z = rw int_eq-same refl

pub value_of-one_neg : (z : ℤ) → 0 < nat_abs z → value_of (z ∷ []) (neg_ℤ z) ≡ Some false
value_of-one_neg z h = value_of-neg (z ∷ []) z h ∙ ap (option_map not) (value_of-one z)

pub value_of-one_other : (z y : ℤ) → z ≢ y → z ≢ neg_ℤ y → value_of (z ∷ []) y ≡ None
value_of-one_other z y h k =
    let e = int_eq-other z y h in let f = int_eq-other z (neg_ℤ y) k in
    rw (e, f) refl

-- after a push
by_option : (o : Option Bool) (xs ys : List ℤ) (z : ℤ) → value_of xs z ≡ o → value_of ys z ≡ None → value_of (xs ++ ys) z ≡ value_of xs z
by_option None xs ys z e h = value_of-after_none xs ys z e ∙ h ∙ sym e
by_option (Some v) xs ys z e h = value_of-after_some xs ys z v e ∙ sym e

pub value_of-push_other : (xs : List ℤ) (z y : ℤ) → z ≢ y → z ≢ neg_ℤ y → value_of (xs ++ z ∷ []) y ≡ value_of xs y
value_of-push_other xs z y h k = by_option (value_of xs y) xs (z ∷ []) y refl (value_of-one_other z y h k)

pub value_of-push_same : (xs : List ℤ) (z : ℤ) → value_of xs z ≡ None → value_of (xs ++ z ∷ []) z ≡ Some true
value_of-push_same xs z e = value_of-after_none xs (z ∷ []) z e ∙ value_of-one z

pub value_of-unset_neg : (xs : List ℤ) (z : ℤ) → 0 < nat_abs z → value_of xs z ≡ None → value_of xs (neg_ℤ z) ≡ None
value_of-unset_neg xs z h e = value_of-neg xs z h ∙ ap (option_map not) e

pub value_of-push_neg : (xs : List ℤ) (z : ℤ) → 0 < nat_abs z → value_of xs z ≡ None → value_of (xs ++ z ∷ []) (neg_ℤ z) ≡ Some false
value_of-push_neg xs z h e = value_of-after_none xs (z ∷ []) (neg_ℤ z) (value_of-unset_neg xs z h e) ∙ value_of-one_neg z h

-- what is found is found at a place
pub rest-none : (a b : Bool) (o : Option Bool) → cond a (Some true) (cond b (Some false) o) ≡ None → o ≡ None
rest-none true b o e = absurd (some≢none true e)
rest-none false true o e = absurd (some≢none false e)
rest-none false false o e = e

nat_abs-neg_ℤ : (z : ℤ) → nat_abs (neg_ℤ z) ≡ nat_abs z
nat_abs-neg_ℤ (pos zero) = refl
nat_abs-neg_ℤ (pos (suc n)) = refl
nat_abs-neg_ℤ (negsuc n) = refl

pub record FoundAt (zs : List ℤ) (z : ℤ) (n : ℕ) : Type 0 where
  pub place : ℕ
  pub within : place < length zs
  pub below : place < n
  pub same : nat_abs (get_or zs place (pos 0)) ≡ nat_abs z

found-step : (a b : Bool) (x : ℤ) (xs : List ℤ) (z : ℤ) (n : ℕ) (v : Bool) → (a ≡ true → x ≡ z) → (b ≡ true → x ≡ neg_ℤ z) →
    cond a (Some true) (cond b (Some false) (value_of (take n xs) z)) ≡ Some v → (value_of (take n xs) z ≡ Some v → FoundAt xs z n) →
    FoundAt (x ∷ xs) z (suc n)
found-step true b x xs z n v h k e go = record { place = 0; within = omega arith; below = omega arith; same = ap nat_abs (h refl) }
found-step false true x xs z n v h k e go =
    record { place = 0; within = omega arith; below = omega arith; same = ap nat_abs (k refl) ∙ nat_abs-neg_ℤ z }
found-step false false x xs z n v h k e go =
    let at = go e in
    record { place = suc at.place; within = omega (arith, at.within); below = omega (arith, at.below); same = at.same }

pub found_at : (zs : List ℤ) (z : ℤ) (n : ℕ) (v : Bool) → value_of (take n zs) z ≡ Some v → FoundAt zs z n
found_at [] z zero v e = cc
found_at [] z (suc n) v e = cc
found_at (x ∷ xs) z zero v e = cc
found_at (x ∷ xs) z (suc n) v e =
    found-step (int_eq x z) (int_eq x (neg_ℤ z)) x xs z n v ((Decides-int_eq x z).0) ((Decides-int_eq x (neg_ℤ z)).0) e (found_at xs z n v)

pub same_variable : (y z : ℤ) → nat_abs y ≡ nat_abs z → (y ≡ z) ⊎ (y ≡ neg_ℤ z)
same_variable (pos m) (pos n) e = inl (ap pos e)
same_variable (pos m) (negsuc n) e = inr (ap pos e)
same_variable (negsuc m) (pos zero) e = absurd (omega arith)
same_variable (negsuc m) (pos (suc n)) e = inr (ap negsuc (omega arith))
same_variable (negsuc m) (negsuc n) e = inl (ap negsuc (omega arith))
