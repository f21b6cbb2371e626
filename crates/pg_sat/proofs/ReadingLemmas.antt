-- What a clause says where all its literals are false, or all but one.
use Rattle.std.proofs.Common.{◌≡◌, ◌≢◌, ◌⊎◌, inl, inr, Bool, true, false, not, cond, ◌||◌, List, [], ◌∷◌, refl, sym, ap, ◌∙◌, ℤ, neg_ℤ}
use Rattle.std.specs.Ordering.{int_eq}
use Rattle.std.proofs.lemmas.Bool.Decides.{Decides-int_eq}
use Rattle.pg_cnf.specs.Literals.{IsAbsent, AreDistinct}
use Rattle.pg_proof.specs.declared.propagation.Reading.TheVariants.{Falsified, Unit, Neither}
use Rattle.pg_proof.specs.Places.{has}
use Rattle.pg_proof.specs.Reading.{open_of, reading_of, reading}

pub false_if : (b : Bool) → (b ≡ true → ⊥) → b ≡ false
false_if true h = absurd (h refl)
false_if false h = refl

pub first_of_two : (a b : Bool) → a ≡ true → a || b ≡ true
first_of_two true b e = refl
first_of_two false b e = cc

pub second_of_two : (a b : Bool) → b ≡ true → a || b ≡ true
second_of_two true b e = refl
second_of_two false b e = e

pub one_of_two : (a b : Bool) → a || b ≡ true → (a ≡ true) ⊎ (b ≡ true)
one_of_two true b e = inl refl
one_of_two false b e = inr e

-- members
pub has-first : (x : ℤ) (xs : List ℤ) → has (x ∷ xs) x ≡ true
has-first x xs = first_of_two (int_eq x x) (has xs x) ((Decides-int_eq x x).1 refl)

pub has-later : (x : ℤ) (xs : List ℤ) (y : ℤ) → has xs y ≡ true → has (x ∷ xs) y ≡ true
has-later x xs y h = second_of_two (int_eq x y) (has xs y) h

pub has-cases : (x : ℤ) (xs : List ℤ) (y : ℤ) → has (x ∷ xs) y ≡ true → (x ≡ y) ⊎ (has xs y ≡ true)
has-cases x xs y h = by (one_of_two (int_eq x y) (has xs y) h)
  where
    by : (int_eq x y ≡ true) ⊎ (has xs y ≡ true) → (x ≡ y) ⊎ (has xs y ≡ true)
    by (inl e) = inl ((Decides-int_eq x y).0 e)
    by (inr e) = inr e

member : {P : Type 0} (x y : ℤ) (xs : List ℤ) → (x ≡ y) ⊎ (has xs y ≡ true) → (x ≡ y → P) → (has xs y ≡ true → P) → P
member x y xs (inl e) f g = f e
member x y xs (inr e) f g = g e

pub by_member : {P : Type 0} (x : ℤ) (xs : List ℤ) (y : ℤ) → has (x ∷ xs) y ≡ true → (x ≡ y → P) → (has xs y ≡ true → P) → P
by_member x xs y h f g = member x y xs (has-cases x xs y h) f g

pub absent_has : (x : ℤ) (xs : List ℤ) (y : ℤ) → IsAbsent x xs → has xs y ≡ true → x ≢ y
absent_has x [] y a h e = cc
absent_has x (z ∷ zs) y a h e = by_member z zs y h (λ s. a.0 (e ∙ sym s)) (λ s. absent_has x zs y a.1 s e)

dropped : (t : ℤ → Bool) (x : ℤ) (xs : List ℤ) → t (neg_ℤ x) ≡ true → open_of t (x ∷ xs) ≡ open_of t xs
dropped t x xs e = ap (λ b. cond (not b) (x ∷ open_of t xs) (open_of t xs)) e

left : (t : ℤ → Bool) (x : ℤ) (xs : List ℤ) → t (neg_ℤ x) ≡ false → open_of t (x ∷ xs) ≡ x ∷ open_of t xs
left t x xs e = ap (λ b. cond (not b) (x ∷ open_of t xs) (open_of t xs)) e

-- all are false
none_open : (t : ℤ → Bool) (c : List ℤ) → ((y : ℤ) → has c y ≡ true → t (neg_ℤ y) ≡ true) → open_of t c ≡ []
none_open t [] h = refl
none_open t (x ∷ xs) h = dropped t x xs (h x (has-first x xs)) ∙ none_open t xs (λ y e. h y (has-later x xs y e))

pub reading-falsified : (t : ℤ → Bool) (c : List ℤ) → ((y : ℤ) → has c y ≡ true → t (neg_ℤ y) ≡ true) → reading t c ≡ Falsified
reading-falsified t c h = ap (reading_of t) (none_open t c h)

-- all are but one
one_open : (t : ℤ → Bool) (c : List ℤ) (z : ℤ) → AreDistinct c → has c z ≡ true → t (neg_ℤ z) ≡ false →
    ((y : ℤ) → has c y ≡ true → y ≢ z → t (neg_ℤ y) ≡ true) → open_of t c ≡ z ∷ []
one_open t [] z d m n h = cc
one_open t (x ∷ xs) z d m n h =
    by_member x xs z m
    (λ e. left t x xs (ap (λ y. t (neg_ℤ y)) e ∙ n)
    ∙ (let rest : open_of t xs ≡ [] = none_open t xs (λ y k. h y (has-later x xs y k) (λ f. absent_has x xs y d.0 k (e ∙ sym f))) in
    λ i. e i ∷ rest i))
    (λ e. dropped t x xs (h x (has-first x xs) (absent_has x xs z d.0 e))
    ∙ one_open t xs z d.1 e n (λ y k f. h y (has-later x xs y k) f))

unit : (t : ℤ → Bool) (z : ℤ) → t z ≡ false → reading_of t (z ∷ []) ≡ Unit z
unit t z e = ap (λ b. cond b Neither (Unit z)) e

pub reading-unit : (t : ℤ → Bool) (c : List ℤ) (z : ℤ) → AreDistinct c → has c z ≡ true → t z ≡ false → t (neg_ℤ z) ≡ false →
    ((y : ℤ) → has c y ≡ true → y ≢ z → t (neg_ℤ y) ≡ true) → reading t c ≡ Unit z
reading-unit t c z d m s n h = ap (reading_of t) (one_open t c z d m n h) ∙ unit t z s
