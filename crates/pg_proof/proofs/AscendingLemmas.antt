-- Numbers in order: a sort puts them so, and what is held without their clauses is the same.
use Rattle.std.proofs.Common.{◌≡◌, ◌≢◌, ℕ, zero, suc, ◌+◌, ◌-◌, ◌<◌, ◌≤◌, Bool, true, false, cond, eqb, leb, if◌then◌else◌, List, [], ◌∷◌, length, get_or, set, Option, None, is_some, refl, sym, ap, subst, ◌∙◌, arith, ℤ, count_by, IsPermutation}
use Rattle.std.specs.Prelude.{⊤}
use Rattle.std.specs.List.Sorted.{IsNonDecreasing}
use Rattle.std.proofs.lemmas.List.Recursion.{is_count_by}
use Rattle.std.proofs.lemmas.List.Sorted.{sum_by-IsPermutation}
use Rattle.std.proofs.lemmas.Bool.Decides.{nat_tests}
use Rattle.pg_proof.specs.State.{clause_at}
use Rattle.pg_proof.specs.Removal.{without}
use Rattle.pg_proof.specs.Trimmed.{AreAscending}
use Rattle.pg_proof.specs.Tidied.{placed, ascending}
use Rattle.pg_proof.proofs.SpentLemmas.{clause_at-set_other}

-- each is at least so much
abbrev pub AreFrom : ℕ → List ℕ → Type 0
AreFrom n [] = ⊤
AreFrom n (x ∷ xs) = (n ≤ x) × AreFrom n xs

placed_by : (b : Bool) (n least m : ℕ) (ms : List ℕ) → leb n m ≡ b → least ≤ n → least ≤ m → AreAscending m ms → (m ≤ n → AreAscending m (placed n ms)) →
    AreAscending least (if b then n ∷ m ∷ ms else m ∷ placed n ms)
placed_by true n least m ms e le lem a down = (le, (let l : n ≤ m = grind (arith, nat_tests) in l, a))
placed_by false n least m ms e le lem a down = (lem, down (let l : m ≤ n = grind (arith, nat_tests) in l))

placed-ascends : (n least : ℕ) (ms : List ℕ) → least ≤ n → AreAscending least ms → AreAscending least (placed n ms)
placed-ascends n least [] le a = (le, tt)
placed-ascends n least (m ∷ ms) le a = placed_by (leb n m) n least m ms refl le a.0 a.1 (λ l. placed-ascends n m ms l a.1)

pub ascending-from : (least : ℕ) (ns : List ℕ) → AreFrom least ns → AreAscending least (ascending ns)
ascending-from least [] f = tt
ascending-from least (n ∷ ns) f = placed-ascends n least (ascending ns) f.0 (ascending-from least ns f.1)

from_none : (ns : List ℕ) → AreFrom 0 ns
from_none [] = tt
from_none (n ∷ ns) = (omega arith, from_none ns)

-- how often a number is there
times : ℕ → List ℕ → ℕ
times h [] = 0
times h (x ∷ xs) = cond (eqb x h) (1 + times h xs) (times h xs)

times-counts : (h : ℕ) (xs : List ℕ) → times h xs ≡ count_by (λ x. eqb x h) xs
unfolding times
times-counts h xs = is_count_by (times h) (λ x. eqb x h) refl (λ x ys. refl) xs

times-sorted : (h : ℕ) (xs ys : List ℕ) → IsPermutation xs ys → times h ys ≡ times h xs
times-sorted h xs ys p = times-counts h ys ∙ sum_by-IsPermutation (λ x. cond (eqb x h) 1 0) xs ys p ∙ sym (times-counts h xs)

exchanged : (a b : Bool) (k : ℕ) → cond a (1 + cond b (1 + k) k) (cond b (1 + k) k) ≡ cond b (1 + cond a (1 + k) k) (cond a (1 + k) k)
exchanged true true k = refl
exchanged true false k = refl
exchanged false true k = refl
exchanged false false k = refl

times_by : (b : Bool) (h n m : ℕ) (ms : List ℕ) → times h (placed n ms) ≡ times h (n ∷ ms) → times h (if b then n ∷ m ∷ ms else m ∷ placed n ms) ≡ times h (n ∷ m ∷ ms)
unfolding times
times_by true h n m ms e = refl
times_by false h n m ms e = ap (λ k. cond (eqb m h) (1 + k) k) e ∙ exchanged (eqb m h) (eqb n h) (times h ms)

times-placed : (h n : ℕ) (ms : List ℕ) → times h (placed n ms) ≡ times h (n ∷ ms)
times-placed h n [] = refl
times-placed h n (m ∷ ms) = times_by (leb n m) h n m ms (times-placed h n ms)

times-ascending : (h : ℕ) (ns : List ℕ) → times h (ascending ns) ≡ times h ns
unfolding times
times-ascending h [] = refl
times-ascending h (n ∷ ns) = times-placed h n (ascending ns) ∙ ap (λ k. cond (eqb n h) (1 + k) k) (times-ascending h ns)

other : (x h : ℕ) → h < x → eqb x h ≡ false
other x h lt = grind (arith, nat_tests)

itself : (x : ℕ) → eqb x x ≡ true
itself x = grind (arith, nat_tests)

absent : (h least : ℕ) (xs : List ℕ) → h < least → AreAscending least xs → times h xs ≡ 0
unfolding times
absent h least [] lt a = refl
absent h least (x ∷ xs) lt a = ap (λ b. cond b (1 + times h xs) (times h xs)) (other x h (omega (arith, a.0))) ∙ absent h x xs (omega (arith, a.0)) a.1

there : (x : ℕ) (xs : List ℕ) → times x (x ∷ xs) ≡ 1 + times x xs
unfolding times
there x xs = ap (λ b. cond b (1 + times x xs) (times x xs)) (itself x)

not_less : (x y : ℕ) (xs ys : List ℕ) → AreAscending y ys → ((h : ℕ) → times h (x ∷ xs) ≡ times h (y ∷ ys)) → x < y → ⊥
not_less x y xs ys a same lt =
    let none = absent x y (y ∷ ys) lt (omega arith, a) in
    let e = sym (there x xs) ∙ same x ∙ none in
    absurd (omega (arith, e))

cancel : (b : Bool) (j k : ℕ) → cond b (1 + j) j ≡ cond b (1 + k) k → j ≡ k
cancel true j k e = omega (arith, e)
cancel false j k e = e

both_equal : (x y : ℕ) → (x < y → ⊥) → (y < x → ⊥) → x ≡ y
both_equal x y f g = grind (arith, f, g)

same_numbers : (least : ℕ) (xs ys : List ℕ) → AreAscending least xs → AreAscending least ys → ((h : ℕ) → times h xs ≡ times h ys) → xs ≡ ys
unfolding times
same_numbers least [] [] a b same = refl
same_numbers least [] (y ∷ ys) a b same = let e = same y ∙ there y ys in absurd (omega (arith, e))
same_numbers least (x ∷ xs) [] a b same = let e = sym (there x xs) ∙ same x in absurd (omega (arith, e))
same_numbers least (x ∷ xs) (y ∷ ys) a b same =
    let head : x ≡ y = both_equal x y (not_less x y xs ys b.1 same) (not_less y x ys xs a.1 (λ h. sym (same h))) in
    let rest = same_numbers y xs ys (subst (λ n. AreAscending n xs) head a.1) b.1
    (λ h. cancel (eqb y h) (times h xs) (times h ys) (ap (λ n. cond (eqb n h) (1 + times h xs) (times h xs)) (sym head) ∙ same h)) in
    λ i. head i ∷ rest i

chain : (least : ℕ) (xs : List ℕ) → IsNonDecreasing xs → (0 < length xs → least ≤ get_or xs 0 0) → AreAscending least xs
chain least [] s le = tt
chain least (x ∷ xs) s le = (
  le (omega arith),
  chain x xs (λ i j d l lt. s (suc i) (suc j) d (omega (arith, l)) (omega (arith, lt))) (λ lt. s 0 1 0 (omega arith) (omega (arith, lt))),
)

pub ascending-sorted : (xs ys : List ℕ) → IsPermutation xs ys → IsNonDecreasing ys → ys ≡ ascending xs
ascending-sorted xs ys p s =
    same_numbers 0 ys (ascending xs) (chain 0 ys s (λ lt. omega arith)) (ascending-from 0 xs (from_none xs))
    (λ h. times-sorted h xs ys p ∙ sym (times-ascending h xs))

-- two that change places
set-set : (held : List (Option (List ℤ))) (j k : ℕ) → set (set held j None) k None ≡ set (set held k None) j None
set-set [] j k = refl
set-set (c ∷ held) zero zero = refl
set-set (c ∷ held) zero (suc k) = refl
set-set (c ∷ held) (suc j) zero = refl
set-set (c ∷ held) (suc j) (suc k) = ap (λ h. c ∷ h) (set-set held j k)

no_branch : (b : Bool) {A : Type 0} (x : A) → (if b then x else x) ≡ x
no_branch true x = refl
no_branch false x = refl

swap_by : (a b : Bool) (x y : Option (List (Option (List ℤ)))) → x ≡ y → (if a then (if b then x else None) else None) ≡ (if b then (if a then y else None) else None)
swap_by true true x y e = e
swap_by true false x y e = refl
swap_by false true x y e = refl
swap_by false false x y e = refl

without-swap : (held : List (Option (List ℤ))) (a b : ℕ) (ns : List ℕ) (s : Bool) → eqb a b ≡ s → without held (a ∷ b ∷ ns) ≡ without held (b ∷ a ∷ ns)
without-swap held a b ns true e =
    let same : a ≡ b = grind (arith, nat_tests) in
    λ i. without held (same i ∷ sym same i ∷ ns)
without-swap held zero b ns false e = sym (no_branch (is_some (clause_at held b)) None)
without-swap held (suc j) zero ns false e = no_branch (is_some (clause_at held (suc j))) None
without-swap held (suc j) (suc k) ns false e =
    let ne : suc j ≢ suc k = (λ f. absurd (grind (arith, nat_tests, f, e))) in
    ap (λ o. if is_some (clause_at held (suc j)) then (if is_some o then without (set (set held (suc j - 1) None) (suc k - 1) None) ns else None) else None)
    (clause_at-set_other held (suc j) (suc k) (omega arith) (λ f. ne (sym f)))
    ∙ swap_by (is_some (clause_at held (suc j))) (is_some (clause_at held (suc k))) (without (set (set held (suc j - 1) None) (suc k - 1) None) ns)
    (without (set (set held (suc k - 1) None) (suc j - 1) None) ns) (ap (λ h. without h ns) (set-set held (suc j - 1) (suc k - 1)))
    ∙ ap (λ o. if is_some (clause_at held (suc k)) then (if is_some o then without (set (set held (suc k - 1) None) (suc j - 1) None) ns else None) else None)
    (sym (clause_at-set_other held (suc k) (suc j) (omega arith) ne))

without_by : (s : Bool) (n m : ℕ) (ms : List ℕ) → ((held : List (Option (List ℤ))) → without held (placed n ms) ≡ without held (n ∷ ms)) →
    (held : List (Option (List ℤ))) → without held (if s then n ∷ m ∷ ms else m ∷ placed n ms) ≡ without held (n ∷ m ∷ ms)
without_by true n m ms down held = refl
without_by false n m ms down held =
    ap (λ o. if is_some (clause_at held m) then o else None) (down (set held (m - 1) None)) ∙ without-swap held m n ms (eqb m n) refl

without-placed : (n : ℕ) (ms : List ℕ) (held : List (Option (List ℤ))) → without held (placed n ms) ≡ without held (n ∷ ms)
without-placed n [] held = refl
without-placed n (m ∷ ms) held = without_by (leb n m) n m ms (without-placed n ms) held

pub without-ascending : (ns : List ℕ) (held : List (Option (List ℤ))) → without held (ascending ns) ≡ without held ns
without-ascending [] held = refl
without-ascending (n ∷ ns) held =
    without-placed n (ascending ns) held ∙ ap (λ o. if is_some (clause_at held n) then o else None) (without-ascending ns (set held (n - 1) None))
