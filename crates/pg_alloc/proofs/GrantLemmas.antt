-- Grants that lie right: one more of them, and one less.
use Rattle.std.proofs.Common.{◌≡◌, ◌≢◌, ℕ, zero, suc, ◌+◌, ◌<◌, ◌≤◌, ◌⊎◌, inl, inr, Bool, true, false, cond, not, ◌||◌, List, [], ◌∷◌, length, get_or, All, None, Some, refl, sym, ◌∙◌, ap, arith}
use Rattle.std.specs.List.{AllPairs, insert, remove, list_any, position, position_or_len}
use Rattle.std.specs.Prelude.{nat_lt, ◌==◌}
use Rattle.std.proofs.lemmas.Bool.{lt-ltb, le-ltb, ltb-true, ltb-false, eqb-true, eq-eqb, ne_eqb, cases_order, or_left, or_right}
use Rattle.std.proofs.lemmas.List.Elements.{All-nil, All-cons, All-head, All-tail, All-weaker, All-filter, All-from_get_or}
use Rattle.std.proofs.lemmas.List.Kept.{AllPairs-cons, AllPairs-filter}
use Rattle.std.proofs.lemmas.List.Quantifiers.{position-Some}
use Rattle.pg_alloc.specs.Fit.{IsFree}
use Rattle.pg_alloc.specs.Grants.{IsGrant, IsBefore, AreGrants, Granted, IsCellOf, and_grant, is_granted, but_grant}

-- the first cell of the grant at a place, and the first behind it
abbrev pub base_at : List (ℕ × ℕ) → ℕ → ℕ
base_at grants i = (get_or grants i (0, 0)).0

abbrev pub end_at : List (ℕ × ℕ) → ℕ → ℕ
end_at grants i = (get_or grants i (0, 0)).0 + (get_or grants i (0, 0)).1

-- ---- places

pub before-at : (grants : List (ℕ × ℕ)) → AllPairs IsBefore grants → (i j : ℕ) → i < j → j < length grants → end_at grants i ≤ base_at grants j
before-at grants apart i j less there = apart i j (0, 0) less there

pairs-head : (first : ℕ × ℕ) (rest : List (ℕ × ℕ)) → AllPairs IsBefore (first ∷ rest) → All (IsBefore first) rest
pairs-head first rest apart = λ k d there. apart 0 (suc k) d (omega arith) (omega arith)

pairs-tail : (first : ℕ × ℕ) (rest : List (ℕ × ℕ)) → AllPairs IsBefore (first ∷ rest) → AllPairs IsBefore rest
pairs-tail first rest apart = λ i j d less there. apart (suc i) (suc j) d (omega arith) (omega arith)

-- ---- no cell is in two

pub alone : (q : ℕ) (grants : List (ℕ × ℕ)) (i j cell : ℕ) → AreGrants q grants → IsCellOf grants i cell → IsCellOf grants j cell → i ≡ j
alone q grants i j cell lie here there = by_order (cases_order i j)
  where
    by_order : (i ≡ j) ⊎ ((i < j) ⊎ (j < i)) → i ≡ j
    by_order (inl same) = same
    by_order (inr (inl less)) = let before = before-at grants lie.apart i j less there.there in absurd (omega (arith, before, here.before, there.from))
    by_order (inr (inr more)) = let before = before-at grants lie.apart j i more here.there in absurd (omega (arith, before, there.before, here.from))

-- ---- one more

all-and : (P : ℕ × ℕ → Type 0) (grant : ℕ × ℕ) (grants : List (ℕ × ℕ)) → P grant → All P grants → All P (and_grant grant grants)
all-and P grant [] p all = All-cons P grant [] p all
all-and P grant (first ∷ rest) p all = by_test (nat_lt grant.0 first.0) (all-and P grant rest p (All-tail P first rest all))
  where
    by_test : (t : Bool) → All P (and_grant grant rest) → All P (cond t (grant ∷ first ∷ rest) (first ∷ and_grant grant rest))
    by_test true behind = All-cons P grant (first ∷ rest) p all
    by_test false behind = All-cons P first (and_grant grant rest) (All-head P first rest all) behind

abbrev IsBeside : ℕ → ℕ → ℕ × ℕ → Type 0
IsBeside size base grant = (base + size ≤ grant.0) ⊎ (grant.0 + grant.1 ≤ base)

-- beside one that begins later, a grant ends before it
ends-before : (size base from to : ℕ) → base < from → from ≤ to → (base + size ≤ from) ⊎ (to ≤ base) → base + size ≤ from
ends-before size base from to less long (inl before) = before
ends-before size base from to less long (inr after) = absurd (omega arith)

-- beside one that does not, it begins behind it
begins-behind : (size base from to : ℕ) → 1 ≤ size → from ≤ base → (base + size ≤ from) ⊎ (to ≤ base) → to ≤ base
begins-behind size base from to least low (inl before) = absurd (omega arith)
begins-behind size base from to least low (inr after) = after

before-all : (size base : ℕ) (first : ℕ × ℕ) (rest : List (ℕ × ℕ)) → AllPairs IsBefore (first ∷ rest) → base < first.0 → All (IsBeside size base) (first ∷ rest) →
    All (IsBefore (base, size)) (first ∷ rest)
before-all size base first rest apart less beside = All-from_get_or (IsBefore (base, size)) (first ∷ rest) (0, 0) by_place
  where
    by_place : (i : ℕ) → i < length (first ∷ rest) → base + size ≤ base_at (first ∷ rest) i
    by_place zero there = ends-before size base first.0 (first.0 + first.1) less (omega arith) (beside 0 (0, 0) there)
    by_place (suc i) there =
        let behind : first.0 + first.1 ≤ base_at rest i = apart 0 (suc i) (0, 0) (omega arith) there in
        ends-before size base (base_at rest i) (end_at rest i) (omega arith) (omega arith) (beside (suc i) (0, 0) there)

apart-and : (size base : ℕ) (grants : List (ℕ × ℕ)) → 1 ≤ size → AllPairs IsBefore grants → All (IsBeside size base) grants → AllPairs IsBefore (and_grant (base, size) grants)
apart-and size base [] least apart beside = AllPairs-cons IsBefore (base, size) [] (All-nil (IsBefore (base, size))) apart
apart-and size base (first ∷ rest) least apart beside =
    by_test (nat_lt base first.0) refl (apart-and size base rest least (pairs-tail first rest apart) (All-tail (IsBeside size base) first rest beside))
  where
    by_test : (t : Bool) → nat_lt base first.0 ≡ t → AllPairs IsBefore (and_grant (base, size) rest) →
        AllPairs IsBefore (cond t ((base, size) ∷ first ∷ rest) (first ∷ and_grant (base, size) rest))
    by_test true is behind =
        AllPairs-cons IsBefore (base, size) (first ∷ rest) (before-all size base first rest apart (ltb-true base first.0 is) beside) apart
    by_test false is behind =
        AllPairs-cons IsBefore first (and_grant (base, size) rest)
        (all-and (IsBefore first) (base, size) rest
        (begins-behind size base first.0 (first.0 + first.1) least (ltb-false base first.0 is) (All-head (IsBeside size base) first rest beside))
        (pairs-head first rest apart))
        behind

pub grants-and : (q size base : ℕ) (grants : List (ℕ × ℕ)) → 1 ≤ size → AreGrants q grants → IsFree q grants size base → AreGrants q (and_grant (base, size) grants)
grants-and q size base grants least lie free = record {
  each = all-and (IsGrant q) (base, size) grants (record { above = free.above; least = least; within = free.within }) lie.each;
  apart = apart-and size base grants least lie.apart free.beside;
}

-- where it is put in
pub and_grant-place : (grant : ℕ × ℕ) (grants : List (ℕ × ℕ)) (i : ℕ) → i ≤ length grants → ((k : ℕ) → k < i → base_at grants k ≤ grant.0) →
    ((k : ℕ) → i ≤ k → k < length grants → grant.0 < base_at grants k) → insert grants i grant ≡ and_grant grant grants
and_grant-place grant [] zero within before behind = refl
and_grant-place grant [] (suc i) within before behind = absurd (omega arith)
and_grant-place grant (first ∷ rest) zero within before behind =
    ap (λ t. cond t (grant ∷ first ∷ rest) (first ∷ and_grant grant rest)) (sym (lt-ltb grant.0 first.0 (behind 0 (omega arith) (omega arith))))
and_grant-place grant (first ∷ rest) (suc i) within before behind =
    ap (λ (l : List (ℕ × ℕ)). first ∷ l)
    (and_grant-place grant rest i (omega arith) (λ k less. before (suc k) (omega arith)) (λ k more there. behind (suc k) (omega arith) (omega arith)))
    ∙ ap (λ t. cond t (grant ∷ first ∷ rest) (first ∷ and_grant grant rest)) (sym (le-ltb grant.0 first.0 (before 0 (omega arith))))

-- ---- one less

abbrev other_than : ℕ → ℕ × ℕ → Bool
other_than base grant = not (grant.0 == base)

pub grants-but : (q base : ℕ) (grants : List (ℕ × ℕ)) → AreGrants q grants → AreGrants q (but_grant base grants)
grants-but q base grants lie = record {
  each = All-filter (other_than base) (IsGrant q) grants lie.each;
  apart = AllPairs-filter IsBefore (other_than base) grants lie.apart;
}

grants-tail : (q : ℕ) (first : ℕ × ℕ) (rest : List (ℕ × ℕ)) → AreGrants q (first ∷ rest) → AreGrants q rest
grants-tail q first rest lie = record { each = All-tail (IsGrant q) first rest lie.each; apart = pairs-tail first rest lie.apart }

but-none : (base : ℕ) (grants : List (ℕ × ℕ)) → All (λ grant. grant.0 ≢ base) grants → but_grant base grants ≡ grants
but-none base [] others = refl
but-none base (first ∷ rest) others =
    ap (λ t. cond (not t) (first ∷ but_grant base rest) (but_grant base rest)) (ne_eqb first.0 base (All-head (λ grant. grant.0 ≢ base) first rest others))
    ∙ ap (λ (l : List (ℕ × ℕ)). first ∷ l) (but-none base rest (All-tail (λ grant. grant.0 ≢ base) first rest others))

-- the one that is taken out is the only one with its base
pub but_grant-place : (q base : ℕ) (grants : List (ℕ × ℕ)) (i : ℕ) → AreGrants q grants → i < length grants → base_at grants i ≡ base → remove grants i ≡ but_grant base grants
but_grant-place q base [] i lie there same = absurd (omega arith)
but_grant-place q base (first ∷ rest) zero lie there same =
    let least = (All-head (IsGrant q) first rest lie.each).least in
    let others : All (λ grant. grant.0 ≢ base) rest =
    All-weaker (IsBefore first) (λ grant. grant.0 ≢ base) (λ grant before equal. omega arith) rest (pairs-head first rest lie.apart) in
    sym (ap (λ t. cond (not t) (first ∷ but_grant base rest) (but_grant base rest)) (eq-eqb first.0 base same) ∙ but-none base rest others)
but_grant-place q base (first ∷ rest) (suc i) lie there same =
    let least = (All-head (IsGrant q) first rest lie.each).least in
    let before : first.0 + first.1 ≤ base_at rest i = lie.apart 0 (suc i) (0, 0) (omega arith) there in
    ap (λ (l : List (ℕ × ℕ)). first ∷ l) (but_grant-place q base rest i (grants-tail q first rest lie) (omega arith) same)
    ∙ ap (λ t. cond (not t) (first ∷ but_grant base rest) (but_grant base rest)) (sym (ne_eqb first.0 base (λ equal. omega arith)))

-- ---- whether one has a base

any-at : (test : ℕ × ℕ → Bool) (grants : List (ℕ × ℕ)) (i : ℕ) → i < length grants → test (get_or grants i (0, 0)) ≡ true → list_any test grants ≡ true
any-at test [] i there passes = absurd (omega arith)
any-at test (first ∷ rest) zero there passes = or_left (test first) (list_any test rest) passes
any-at test (first ∷ rest) (suc i) there passes = or_right (test first) (list_any test rest) (any-at test rest i (omega arith) passes)

none-passes : (test : ℕ × ℕ → Bool) (grants : List (ℕ × ℕ)) → length grants ≤ position_or_len test grants → list_any test grants ≡ false
none-passes test [] past = refl
none-passes test (first ∷ rest) past = by_test (test first) past (none-passes test rest)
  where
    by_test : (t : Bool) → suc (length rest) ≤ cond (not t) (1 + position_or_len test rest) 0 →
        (length rest ≤ position_or_len test rest → list_any test rest ≡ false) → (t || list_any test rest) ≡ false
    by_test true far more = absurd (omega arith)
    by_test false far more = more (omega arith)

abbrev has_base : ℕ → ℕ × ℕ → Bool
has_base base grant = grant.0 == base

-- the place of the grant of a base
pub placed-there : (base : ℕ) (grants : List (ℕ × ℕ)) (i : ℕ) → position (has_base base) grants ≡ Some i →
    (i < length grants) × (base_at grants i ≡ base) × (is_granted base grants ≡ true)
placed-there base grants i found =
    let facts = position-Some (has_base base) grants i (0, 0) found in
    (facts.0, eqb-true (base_at grants i) base facts.1, any-at (has_base base) grants i facts.0 facts.1)

pub placed-nowhere : (base : ℕ) (grants : List (ℕ × ℕ)) → position (has_base base) grants ≡ None → is_granted base grants ≡ false
placed-nowhere base grants none = by_test (nat_lt (position_or_len (has_base base) grants) (length grants)) refl none
  where
    by_test : (t : Bool) → nat_lt (position_or_len (has_base base) grants) (length grants) ≡ t → cond t (Some (position_or_len (has_base base) grants)) None ≡ None →
        is_granted base grants ≡ false
    by_test true is wrong = absurd (let no : ⊥ = cc in no)
    by_test false is same = none-passes (has_base base) grants (ltb-false (position_or_len (has_base base) grants) (length grants) is)

pub same-storage : (q : ℕ) (grants others : List (ℕ × ℕ)) → grants ≡ others → ◌≡◌ {A = Granted} (record { q = q; grants = grants }) (record { q = q; grants = others })
same-storage q grants others same = cc
