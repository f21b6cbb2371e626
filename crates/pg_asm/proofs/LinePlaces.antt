-- Where the lines of a source stand, as the two readings count it.
use Rattle.std.proofs.Common.{◌≡◌, ◌⊎◌, inl, inr, ℕ, zero, suc, ◌+◌, ◌<◌, ◌≤◌, Bool, true, false, List, [], ◌∷◌, ◌++◌, length, take, drop, slice_get, Some, refl, ap, sym, ◌∙◌, arith}
use Rattle.std.specs.Prelude.{nat_lt, filter}
use Rattle.std.specs.List.{AllByRecursion}
use Rattle.std.proofs.lemmas.Bool.{ltb-true, ltb-false}
use Rattle.pg_asm.specs.Said.{Said, Blank, At, Label, Word, Instr}
use Rattle.pg_asm.specs.Sources.{place_behind}
use Rattle.pg_asm.specs.Placed.{IsLine, sets_place, takes_place, StandsAt}

-- ---- numbers

pub below-or : (a b : ℕ) → (a < b) ⊎ (b ≤ a)
below-or a b = by (nat_lt a b) refl
  where
    by : (t : Bool) → nat_lt a b ≡ t → (a < b) ⊎ (b ≤ a)
    by true e = inl (ltb-true a b e)
    by false e = inr (ltb-false a b e)

pub below-next : (j n : ℕ) → j < n + 1 → (j < n) ⊎ (j ≡ n)
below-next j n h = by (below-or j n)
  where
    by : (j < n) ⊎ (n ≤ j) → (j < n) ⊎ (j ≡ n)
    by (inl less) = inl less
    by (inr more) = inr (omega (arith, h, more))

-- ---- lines

pub one-line : (lines : List Said) (n : ℕ) (s t : Said) → IsLine lines n s → IsLine lines n t → s ≡ t
one-line lines n s t h k = let e : Some s ≡ Some t = sym h ∙ k in cc e

-- the first of the lines that are left
pub record Left (lines : List Said) (n : ℕ) (said : Said) (behind : List Said) : Type 0 where
  pub line : IsLine lines n said
  pub rest : drop (n + 1) lines ≡ behind

pub left : (lines : List Said) (n : ℕ) (said : Said) (behind : List Said) → drop n lines ≡ said ∷ behind → Left lines n said behind
left [] zero said behind h = absurd (cc h)
left [] (suc n) said behind h = absurd (cc h)
left (x ∷ xs) zero said behind h =
    let same : x ≡ said = cc h in
    let rest : xs ≡ behind = cc h in
    record { line = ap (λ s. Some s) same; rest = rest }
left (x ∷ xs) (suc n) said behind h =
    let l = left xs n said behind h in
    let e : suc n + 1 ≡ suc (n + 1) = omega arith in
    record { line = l.line; rest = ap (λ k. drop k (x ∷ xs)) e ∙ l.rest }

-- where none are left, there is no further line
pub none-left : {X : Type 0} (xs : List X) (n m : ℕ) (x : X) → drop n xs ≡ [] → n ≤ m → slice_get xs m ≡ Some x → ⊥
none-left [] n m x h most at = cc at
none-left (y ∷ ys) zero m x h most at = cc h
none-left (y ∷ ys) (suc n) zero x h most at = absurd (omega (arith, most))
none-left (y ∷ ys) (suc n) (suc m) x h most at = none-left ys n m x h (omega (arith, most)) at

-- ---- places

-- the place behind lines, of which the first begins at this one
abbrev pub place_from : ℕ → List Said → ℕ
place_from p [] = p
place_from p (said ∷ behind) = place_from (place_behind said p) behind

abbrev pub place_at : List Said → ℕ → ℕ
place_at lines n = place_from 0 (take n lines)

place-append : (p : ℕ) (xs ys : List Said) → place_from p (xs ++ ys) ≡ place_from (place_from p xs) ys
place-append p [] ys = refl
place-append p (x ∷ xs) ys = place-append (place_behind x p) xs ys

place-since : (k : ℕ) (since : List Said) → AllByRecursion (λ said. sets_place said ≡ false) since → place_from k since ≡ k + length (filter takes_place since)
place-since k [] h = omega arith
place-since k (Blank ∷ ss) h = place-since k ss h.1 ∙ omega arith
place-since k (At n ∷ ss) h = absurd (cc h.0)
place-since k (Label name ∷ ss) h = place-since k ss h.1 ∙ omega arith
place-since k (Word word ∷ ss) h = place-since (k + 1) ss h.1 ∙ (let e : k + 1 + length (filter takes_place ss) ≡ k + suc (length (filter takes_place ss)) = omega arith in e)
place-since k (Instr name operands ∷ ss) h = place-since (k + 1) ss h.1 ∙ (let e : k + 1 + length (filter takes_place ss) ≡ k + suc (length (filter takes_place ss)) = omega arith in e)

-- a line stands at one place alone
pub place-is : (lines : List Said) (n a : ℕ) → StandsAt lines n a → place_at lines n ≡ a
place-is lines n a s = ap (place_from 0) s.before ∙ place-append 0 s.front (At s.k ∷ s.since) ∙ place-since s.k s.since s.last ∙ s.counted

-- the last `@k` of lines, if any
record LastSet (lines : List Said) : Type 0 where
  front : List Said
  k : ℕ
  since : List Said
  cut : lines ≡ front ++ At k ∷ since
  last : AllByRecursion (λ said. sets_place said ≡ false) since

last-set : (lines : List Said) → LastSet lines ⊎ AllByRecursion (λ said. sets_place said ≡ false) lines
last-set [] = inr tt
last-set (x ∷ xs) = by x (last-set xs)
  where
    by : (s : Said) → LastSet xs ⊎ AllByRecursion (λ said. sets_place said ≡ false) xs → LastSet (s ∷ xs) ⊎ AllByRecursion (λ said. sets_place said ≡ false) (s ∷ xs)
    by s (inl l) = inl (record { front = s ∷ l.front; k = l.k; since = l.since; cut = ap (λ ys. s ∷ ys) l.cut; last = l.last })
    by Blank (inr all) = inr (refl, all)
    by (At k) (inr all) = inl (record { front = []; k = k; since = xs; cut = refl; last = all })
    by (Label name) (inr all) = inr (refl, all)
    by (Word word) (inr all) = inr (refl, all)
    by (Instr name operands) (inr all) = inr (refl, all)

-- behind a first `@k` each line stands somewhere
pub stands : (first : ℕ) (saids : List Said) (n : ℕ) → 0 < n → StandsAt (At first ∷ saids) n (place_at (At first ∷ saids) n)
stands first saids zero some = absurd (omega (arith, some))
stands first saids (suc n) some = by (last-set (At first ∷ take n saids))
  where
    by : LastSet (At first ∷ take n saids) ⊎ AllByRecursion (λ said. sets_place said ≡ false) (At first ∷ take n saids) → StandsAt (At first ∷ saids) (suc n) (place_from first (take n saids))
    by (inl l) = record {
      front = l.front;
      k = l.k;
      since = l.since;
      before = l.cut;
      last = l.last;
      counted = sym (ap (place_from 0) l.cut ∙ place-append 0 l.front (At l.k ∷ l.since) ∙ place-since l.k l.since l.last);
    }
    by (inr all) = absurd (cc all.0)

-- the place behind a line
pub place-next : (p : ℕ) (lines : List Said) (n : ℕ) (said : Said) → IsLine lines n said → place_from p (take (suc n) lines) ≡ place_behind said (place_from p (take n lines))
place-next p [] n said h = absurd (cc h)
place-next p (x ∷ xs) zero said h = let same : x ≡ said = cc h in ap (λ s. place_behind s p) same
place-next p (x ∷ xs) (suc n) said h = place-next (place_behind x p) xs n said h
