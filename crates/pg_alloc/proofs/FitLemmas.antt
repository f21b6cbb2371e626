-- First fit: the base that is found is free, and no lesser one is.
use Rattle.std.proofs.Common.{◌≡◌, ℕ, zero, suc, ◌+◌, ◌-◌, ◌<◌, ◌≤◌, ◌⊎◌, inl, inr, Bool, true, false, cond, nat_le, List, [], ◌∷◌, All, Option, None, Some, IsSomeAnd, refl, sym, ◌∙◌, ap, arith}
use Rattle.std.specs.List.{find, list_all, range_with_len}
use Rattle.std.proofs.lemmas.Bool.{leb-true, le-leb, cases_order, and_parts, and_from, or_cases, or_left, or_right, both_ways}
use Rattle.std.proofs.lemmas.List.Elements.{All-nil, All-cons, All-head, All-tail}
use Rattle.pg_alloc.specs.Fit.{is_beside, is_free, free_base, IsFree}

-- ---- the test is the relation

abbrev IsBeside : ℕ → ℕ → ℕ × ℕ → Type 0
IsBeside size base grant = (base + size ≤ grant.0) ⊎ (grant.0 + grant.1 ≤ base)

beside-from : (size base : ℕ) (grant : ℕ × ℕ) → is_beside size base grant ≡ true → IsBeside size base grant
beside-from size base grant e = by_case (or_cases (nat_le (base + size) grant.0) (nat_le (grant.0 + grant.1) base) e)
  where
    by_case : (nat_le (base + size) grant.0 ≡ true) ⊎ (nat_le (grant.0 + grant.1) base ≡ true) → IsBeside size base grant
    by_case (inl before) = inl (leb-true (base + size) grant.0 before)
    by_case (inr after) = inr (leb-true (grant.0 + grant.1) base after)

beside-to : (size base : ℕ) (grant : ℕ × ℕ) → IsBeside size base grant → is_beside size base grant ≡ true
beside-to size base grant (inl before) = or_left (nat_le (base + size) grant.0) (nat_le (grant.0 + grant.1) base) (le-leb (base + size) grant.0 before)
beside-to size base grant (inr after) = or_right (nat_le (base + size) grant.0) (nat_le (grant.0 + grant.1) base) (le-leb (grant.0 + grant.1) base after)

all-from : (size base : ℕ) (grants : List (ℕ × ℕ)) → list_all (is_beside size base) grants ≡ true → All (IsBeside size base) grants
all-from size base [] e = All-nil (IsBeside size base)
all-from size base (grant ∷ grants) e =
    let parts = and_parts (is_beside size base grant) (list_all (is_beside size base) grants) e in
    All-cons (IsBeside size base) grant grants (beside-from size base grant parts.0) (all-from size base grants parts.1)

all-to : (size base : ℕ) (grants : List (ℕ × ℕ)) → All (IsBeside size base) grants → list_all (is_beside size base) grants ≡ true
all-to size base [] all = refl
all-to size base (grant ∷ grants) all =
    and_from (is_beside size base grant) (list_all (is_beside size base) grants)
    (beside-to size base grant (All-head (IsBeside size base) grant grants all))
    (all-to size base grants (All-tail (IsBeside size base) grant grants all))

free-from : (q : ℕ) (grants : List (ℕ × ℕ)) (size base : ℕ) → 2 ≤ base → is_free q grants size base ≡ true → IsFree q grants size base
free-from q grants size base above e =
    let parts = and_parts (nat_le (base + size) q) (list_all (is_beside size base) grants) e in
    record { above = above; within = leb-true (base + size) q parts.0; beside = all-from size base grants parts.1 }

free-to : (q : ℕ) (grants : List (ℕ × ℕ)) (size base : ℕ) → IsFree q grants size base → is_free q grants size base ≡ true
free-to q grants size base f =
    and_from (nat_le (base + size) q) (list_all (is_beside size base) grants) (le-leb (base + size) q f.within) (all-to size base grants f.beside)

-- ---- the search

-- what is found in a row of numbers is one of them that passes
found-passes : (test : ℕ → Bool) (a n b : ℕ) → find test (range_with_len a n) ≡ Some b → (a ≤ b) × (test b ≡ true)
found-passes test a zero b e = absurd (let wrong : ⊥ = cc in wrong)
found-passes test a (suc n) b e = by_test (test a) refl e (found-passes test (a + 1) n b)
  where
    by_test : (t : Bool) → test a ≡ t → cond t (Some a) (find test (range_with_len (a + 1) n)) ≡ Some b →
        (find test (range_with_len (a + 1) n) ≡ Some b → (a + 1 ≤ b) × (test b ≡ true)) → (a ≤ b) × (test b ≡ true)
    by_test true is same more = let who : a ≡ b = cc in (omega (arith, who), ap test (sym who) ∙ is)
    by_test false is later more = let found = more later in (omega (arith, found.0), found.1)

-- where one of them passes, one is found that is no greater
past-it : (test : ℕ → Bool) (a c : ℕ) → a ≤ c → test c ≡ true → test a ≡ false → a + 1 ≤ c
past-it test a c low passes fails = by_order (cases_order a c)
  where
    by_order : (a ≡ c) ⊎ ((a < c) ⊎ (c < a)) → a + 1 ≤ c
    by_order (inl same) = absurd (both_ways (test c) (sym (ap test same) ∙ fails) passes)
    by_order (inr (inl less)) = omega arith
    by_order (inr (inr more)) = absurd (omega arith)

found-least : (test : ℕ → Bool) (a n c : ℕ) → a ≤ c → c < a + n → test c ≡ true → IsSomeAnd (find test (range_with_len a n)) (λ b. b ≤ c)
found-least test a zero c low high passes = absurd (omega arith)
found-least test a (suc n) c low high passes = by_test (test a) refl (λ later. found-least test (a + 1) n c later (omega arith) passes)
  where
    by_test : (t : Bool) → test a ≡ t → (a + 1 ≤ c → IsSomeAnd (find test (range_with_len (a + 1) n)) (λ b. b ≤ c)) →
        IsSomeAnd (cond t (Some a) (find test (range_with_len (a + 1) n))) (λ b. b ≤ c)
    by_test true is more = low
    by_test false is more = more (past-it test a c low passes is)

-- ---- first fit

pub free_base-free : (q : ℕ) (grants : List (ℕ × ℕ)) (size base : ℕ) → free_base q grants size ≡ Some base → IsFree q grants size base
unfolding free_base
free_base-free q grants size base e =
    let found = found-passes (is_free q grants size) 2 (q - 1) base e in free-from q grants size base found.0 found.1

pub free_base-least : (q : ℕ) (grants : List (ℕ × ℕ)) (size base : ℕ) → IsFree q grants size base → IsSomeAnd (free_base q grants size) (λ b. b ≤ base)
unfolding free_base
free_base-least q grants size base f =
    found-least (is_free q grants size) 2 (q - 1) base f.above (omega (arith, f.above, f.within)) (free-to q grants size base f)

least-is : (o : Option ℕ) (c : ℕ) → IsSomeAnd o (λ b. b ≤ c) → ((b : ℕ) → o ≡ Some b → c ≤ b) → o ≡ Some c
least-is None c found above = absurd found
least-is (Some b) c found above = let low = above b refl in ap Some (omega (arith, found, low))

-- where it is free at a base and at no lesser one, that is the base
pub free_base-is : (q : ℕ) (grants : List (ℕ × ℕ)) (size base : ℕ) → IsFree q grants size base → ((c : ℕ) → IsFree q grants size c → base ≤ c) → free_base q grants size ≡ Some base
free_base-is q grants size base free least =
    least-is (free_base q grants size) base (free_base-least q grants size base free) (λ b e. least b (free_base-free q grants size b e))

none-is : (o : Option ℕ) → ((b : ℕ) → o ≡ Some b → ⊥) → o ≡ None
none-is None never = refl
none-is (Some b) never = absurd (never b refl)

pub free_base-none : (q : ℕ) (grants : List (ℕ × ℕ)) (size : ℕ) → ((c : ℕ) → IsFree q grants size c → ⊥) → free_base q grants size ≡ None
free_base-none q grants size nowhere = none-is (free_base q grants size) (λ b e. nowhere b (free_base-free q grants size b e))

-- ---- no grant

pub free_base-first : (q size : ℕ) → 2 + size ≤ q → free_base q [] size ≡ Some 2
free_base-first q size room =
    free_base-is q [] size 2 (record { above = omega arith; within = room; beside = All-nil (IsBeside size 2) }) (λ c free. free.above)

pub free_base-full : (q : ℕ) (grants : List (ℕ × ℕ)) (size : ℕ) → q < 2 + size → free_base q grants size ≡ None
free_base-full q grants size full = free_base-none q grants size (λ c free. let low = free.above in let high = free.within in omega (arith, low, high))
