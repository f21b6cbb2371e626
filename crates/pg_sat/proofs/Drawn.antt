-- One literal more.
use Rattle.std.proofs.Common.{◌≡◌, ℕ, zero, suc, ◌+◌, ◌-◌, ◌*◌, ◌<◌, ◌≤◌, Bool, true, false, List, [], ◌∷◌, ◌++◌, refl, sym, ap, subst, ◌∙◌, arith, ℤ, pos, neg_ℤ, append_assoc, get_or}
use Rattle.std.proofs.lemmas.List.{append-nil}
use Rattle.pg_proof.specs.Places.{place, is_marked}
use Rattle.pg_sat.specs.Listed.{listed_at, listed, AreDownWithin}
use Rattle.pg_sat.proofs.StepLemmas.{step-listed, none-listed, listed_positive, listed_negative, listed_neither}

pub place-neg : (v : ℕ) → 0 < v → place (neg_ℤ (pos v)) ≡ 2 * v + 1
place-neg zero lt = absurd (omega arith)
place-neg (suc n) lt = omega arith

-- the first of some variables
listed-next : (flags : List Bool) (v n : ℕ) → v < n → listed flags v (n - v) ≡ listed_at flags v ++ listed flags (v + 1) (n - (v + 1))
listed-next flags v n lt =
    let e : n - v ≡ suc (n - (v + 1)) = omega arith in
    ap (listed flags v) e ∙ step-listed flags v (n - (v + 1)) (listed_at flags v) refl

listed-end : (flags : List Bool) (v n : ℕ) → n ≤ v → listed flags v (n - v) ≡ []
listed-end flags v n le = let e : n - v ≡ 0 = omega arith in ap (listed flags v) e ∙ none-listed flags v

pub listed_on : (flags : List Bool) (before after whole : List ℤ) (v n : ℕ) → v < n → after ≡ before ++ listed_at flags v →
    before ++ listed flags v (n - v) ≡ whole → after ++ listed flags (v + 1) (n - (v + 1)) ≡ whole
listed_on flags before after whole v n lt e h =
    ap (λ xs. xs ++ listed flags (v + 1) (n - (v + 1))) e
    ∙ append_assoc before (listed_at flags v) (listed flags (v + 1) (n - (v + 1)))
    ∙ ap (λ xs. before ++ xs) (sym (listed-next flags v n lt)) ∙ h

pub listed_whole : (flags : List Bool) (before whole : List ℤ) (v n : ℕ) → n ≤ v → before ++ listed flags v (n - v) ≡ whole → before ≡ whole
listed_whole flags before whole v n le h = sym (append-nil before) ∙ ap (λ xs. before ++ xs) (sym (listed-end flags v n le)) ∙ h

-- those of some variables, and those of others behind them
listed-split : (flags : List Bool) (v j k : ℕ) → listed flags v (j + k) ≡ listed flags v j ++ listed flags (v + j) k
listed-split flags v zero k =
    let e : zero + k ≡ k = omega arith in
    let f : v ≡ v + zero = omega arith in
    ap (listed flags v) e ∙ ap (λ (w : ℕ). listed flags w k) f ∙ ap (λ xs. xs ++ listed flags (v + zero) k) (sym (none-listed flags v))
listed-split flags v (suc j) k =
    let e : suc j + k ≡ suc (j + k) = omega arith in
    let f : v + 1 + j ≡ v + suc j = omega arith in
    ap (listed flags v) e
    ∙ step-listed flags v (j + k) (listed_at flags v) refl
    ∙ ap (λ xs. listed_at flags v ++ xs) (listed-split flags (v + 1) j k ∙ ap (λ (w : ℕ). listed flags (v + 1) j ++ listed flags w k) f)
    ∙ sym (append_assoc (listed_at flags v) (listed flags (v + 1) j) (listed flags (v + suc j) k))
    ∙ ap (λ xs. xs ++ listed flags (v + suc j) k) (sym (step-listed flags v j (listed_at flags v) refl))

pub block_on : (flags : List Bool) (before after whole : List ℤ) (v w n : ℕ) → v ≤ w → w ≤ n → after ≡ before ++ listed flags v (w - v) →
    before ++ listed flags v (n - v) ≡ whole → after ++ listed flags w (n - w) ≡ whole
block_on flags before after whole v w n le within e h =
    let p : w - v + (n - w) ≡ n - v = omega arith in
    let q : v + (w - v) ≡ w = omega arith in
    ap (λ xs. xs ++ listed flags w (n - w)) e
    ∙ append_assoc before (listed flags v (w - v)) (listed flags w (n - w))
    ∙ ap
    (λ xs. before ++ xs)
    (ap (λ (u : ℕ). listed flags v (w - v) ++ listed flags u (n - w)) (sym q) ∙ sym (listed-split flags v (w - v) (n - w)) ∙ ap (listed flags v) p)
    ∙ h

-- where no flag is up nothing is listed
listed-down : (flags : List Bool) (k v : ℕ) → 0 < v → AreDownWithin flags (2 * v) (2 * (v + k)) → listed flags v k ≡ []
unfolding AreDownWithin
listed-down flags zero v lt h = none-listed flags v
listed-down flags (suc k) v lt h =
    step-listed flags v k [] (listed_neither flags v (h (2 * v) (omega arith) (omega arith)) (ap (λ (n : ℕ). get_or flags n false) (place-neg v lt) ∙ h (2 * v + 1) (omega arith) (omega arith)))
    ∙ listed-down flags k (v + 1) (omega arith) (λ n le below. h n (omega arith) (omega arith))

pub passed_over : (flags : List Bool) (old : List ℤ) (v n : ℕ) → 0 < v → v ≤ n → AreDownWithin flags (2 * v) (2 * n) → old ≡ old ++ listed flags v (n - v)
passed_over flags old v n lt le h =
    let e : n ≡ v + (n - v) = omega arith in
    sym (append-nil old) ∙ ap (λ xs. old ++ xs) (sym (listed-down flags (n - v) v lt (subst (λ (m : ℕ). AreDownWithin flags (2 * v) (2 * m)) e h)))

-- as the code has them
module _ (flags : List Bool) (v : ℕ) (old : List ℤ) where
  pub push_positive : (new : List ℤ) → is_marked flags (pos v) ≡ true → new ≡ old ++ pos v ∷ [] → new ≡ old ++ listed_at flags v
  push_positive new e f = f ∙ ap (λ xs. old ++ xs) (sym (listed_positive flags v e))

  pub push_negative : (new : List ℤ) → is_marked flags (pos v) ≡ false → is_marked flags (neg_ℤ (pos v)) ≡ true → new ≡ old ++ neg_ℤ (pos v) ∷ [] → new ≡ old ++ listed_at flags v
  push_negative new e g f = f ∙ ap (λ xs. old ++ xs) (sym (listed_negative flags v e g))

  pub push_neither : is_marked flags (pos v) ≡ false → is_marked flags (neg_ℤ (pos v)) ≡ false → old ≡ old ++ listed_at flags v
  push_neither e g = sym (append-nil old) ∙ ap (λ xs. old ++ xs) (sym (listed_neither flags v e g))
