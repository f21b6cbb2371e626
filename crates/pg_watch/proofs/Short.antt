-- A trail is no longer than there are variables.
use Rattle.std.proofs.Common.{◌≡◌, ℕ, zero, suc, ◌-◌, ◌<◌, ◌≤◌, ◌⊎◌, inl, inr, Bool, true, false, ◌||◌, eqb, ℤ, pos, negsuc, neg_ℤ, nat_abs, List, [], ◌∷◌, ◌++◌, length, Option, None, Some, refl, sym, ap, ◌∙◌, arith}
use Rattle.std.specs.Prelude.{map}
use Rattle.std.specs.List.{IsDistinct, AllByRecursion, list_any}
use Rattle.std.proofs.lemmas.List.{length-map}
use Rattle.std.proofs.lemmas.Map.Steps.{length-le_from_distinct_below}
use Rattle.std.proofs.lemmas.Bool.Decides.{Decides-eqb}
use Rattle.pg_cnf.specs.Literals.{IsLiteral}
use Rattle.pg_watch.specs.Trail.{value_of, AreSet}
use Rattle.pg_watch.proofs.Values.{value_of-after_some, value_of-one, value_of-one_neg, value_of-after_none}

-- numbers of the variables, from 0
abbrev indices : List ℤ → List ℕ
indices zs = map (λ z. nat_abs z - 1) zs

same_variable : (y z : ℤ) → 0 < nat_abs y → 0 < nat_abs z → nat_abs y - 1 ≡ nat_abs z - 1 → (y ≡ z) ⊎ (y ≡ neg_ℤ z)
same_variable (pos zero) z h k e = absurd (omega arith)
same_variable (pos (suc m)) (pos zero) h k e = absurd (omega arith)
same_variable (pos (suc m)) (pos (suc n)) h k e = inl (ap pos (omega arith))
same_variable (pos (suc m)) (negsuc n) h k e = inr (ap pos (omega arith))
same_variable (negsuc m) (pos zero) h k e = absurd (omega arith)
same_variable (negsuc m) (pos (suc n)) h k e = inr (ap negsuc (omega arith))
same_variable (negsuc m) (negsuc n) h k e = inl (ap negsuc (omega arith))

-- a literal is set among others
some_set : (before zs : List ℤ) (z : ℤ) → (value_of before z ≡ None → ⊥) → value_of (before ++ zs) z ≡ None → ⊥
some_set before zs z h e = by (value_of before z) refl
  where
    by : (o : Option Bool) → value_of before z ≡ o → ⊥
    by None f = h f
    by (Some v) f = let g : Some v ≡ None = sym (value_of-after_some before zs z v f) ∙ e in cc

is_set : (z y : ℤ) → 0 < nat_abs z → (y ≡ z) ⊎ (y ≡ neg_ℤ z) → value_of (z ∷ []) y ≡ None → ⊥
is_set z y h (inl e) f = let g : Some true ≡ None = sym (value_of-one z) ∙ ap (value_of (z ∷ [])) (sym e) ∙ f in cc
is_set z y h (inr e) f = let g : Some false ≡ None = sym (value_of-one_neg z h) ∙ ap (value_of (z ∷ [])) (sym e) ∙ f in cc

last_set : (before : List ℤ) (z y : ℤ) → (value_of (z ∷ []) y ≡ None → ⊥) → value_of (before ++ z ∷ []) y ≡ None → ⊥
last_set before z y h e = by (value_of before y) refl
  where
    by : (o : Option Bool) → value_of before y ≡ o → ⊥
    by None f = h (sym (value_of-after_none before (z ∷ []) y f) ∙ e)
    by (Some v) f = let g : Some v ≡ None = sym (value_of-after_some before (z ∷ []) y v f) ∙ e in cc

not_equal : (m n : ℕ) (b : Bool) → eqb m n ≡ b → (m ≡ n → ⊥) → b ≡ false
not_equal m n true e h = absurd (h ((Decides-eqb m n).0 e))
not_equal m n false e h = refl

others : (n : ℕ) (before zs : List ℤ) (z : ℤ) → 0 < nat_abs z → ((y : ℤ) → (value_of (z ∷ []) y ≡ None → ⊥) → value_of before y ≡ None → ⊥) →
    AreSet n before zs → AllByRecursion (λ y. eqb (nat_abs z - 1) y ≡ false) (indices zs)
others n before [] z h k all = tt
others n before (y ∷ zs) z h k all = (
  not_equal (nat_abs z - 1) (nat_abs y - 1) _ refl
      (λ e. k y (is_set z y h (same_variable y z all.0.0 h (sym e))) all.1),
  others n (before ++ y ∷ []) zs z h (λ x f. some_set before (y ∷ []) x (k x f)) all.2,
)

distinct : (n : ℕ) (before zs : List ℤ) → AreSet n before zs → IsDistinct eqb (indices zs)
unfolding IsDistinct
distinct n before [] h = tt
distinct n before (z ∷ zs) h =
    (others n (before ++ z ∷ []) zs z h.0.0 (last_set before z) h.2, distinct n (before ++ z ∷ []) zs h.2)

one_below : (n : ℕ) (zs : List ℤ) (z : ℤ) (q : ℕ) → IsLiteral n z → (b : Bool) → eqb q (nat_abs z - 1) ≡ b →
    b || list_any (eqb q) (indices zs) ≡ true → (list_any (eqb q) (indices zs) ≡ true → q < n) → q < n
one_below n zs z q h true f g go = omega (arith, (Decides-eqb q (nat_abs z - 1)).0 f, h.0, h.1)
one_below n zs z q h false f g go = go g

below : (n : ℕ) (before zs : List ℤ) → AreSet n before zs → (q : ℕ) → list_any (eqb q) (indices zs) ≡ true → q < n
below n before [] h q e = absurd (let f : false ≡ true = e in cc)
below n before (z ∷ zs) h q e = one_below n zs z q h.0 (eqb q (nat_abs z - 1)) refl e (below n (before ++ z ∷ []) zs h.2 q)

pub AreSet-short : (n : ℕ) (zs : List ℤ) → AreSet n [] zs → length zs ≤ n
AreSet-short n zs h =
    omega (arith, length-le_from_distinct_below (indices zs) n (distinct n [] zs h) (below n [] zs h), length-map zs (λ z. nat_abs z - 1))
