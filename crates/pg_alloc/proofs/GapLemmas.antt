-- The walk over grants to the first gap: what it has passed.
use Rattle.std.proofs.Common.{◌≡◌, ℕ, ◌+◌, ◌<◌, ◌≤◌, ◌⊎◌, inl, inr, Bool, true, false, cond, List, length, None, sym, ◌∙◌, ap, subst, arith}
use Rattle.std.specs.List.{insert}
use Rattle.std.proofs.lemmas.Bool.{cases_order, cases_lt}
use Rattle.std.proofs.lemmas.List.Elements.{All-from_get_or}
use Rattle.pg_alloc.specs.Fit.{free_base, IsFree}
use Rattle.pg_alloc.specs.Grants.{AreGrants, IsGap}
use Rattle.pg_alloc.proofs.FitLemmas.{free_base-is, free_base-none}
use Rattle.pg_alloc.proofs.GrantLemmas.{base_at, end_at, before-at, grants-and, and_grant-place}

-- so many grants end before a base, the others do not begin before it, and no lesser one is free
pub record Passed (q : ℕ) (grants : List (ℕ × ℕ)) (size i base : ℕ) : Type 0 where
  pub low : 2 ≤ base
  pub least : (c : ℕ) → IsFree q grants size c → base ≤ c
  pub past : (k : ℕ) → k < i → end_at grants k ≤ base
  pub next : (k : ℕ) → i ≤ k → k < length grants → base ≤ base_at grants k

pub none_passed : (q : ℕ) (grants : List (ℕ × ℕ)) (size : ℕ) → AreGrants q grants → Passed q grants size 0 2
none_passed q grants size lie = record {
  low = omega arith;
  least = λ c free. free.above;
  past = λ k less. absurd (omega arith);
  next = λ k more there. (lie.each k (0, 0) there).above;
}

-- free cells that do not begin before a base lie behind a grant that begins too early for them to end before it
behind-next : (size base from to c : ℕ) → base ≤ c → from < base + size → (c + size ≤ from) ⊎ (to ≤ c) → to ≤ c
behind-next size base from to c low short (inl before) = absurd (omega arith)
behind-next size base from to c low short (inr after) = after

past-next : (q : ℕ) (grants : List (ℕ × ℕ)) (size i base : ℕ) → Passed q grants size i base → i < length grants → (k : ℕ) → k < i + 1 → end_at grants k ≤ end_at grants i
past-next q grants size i base p there k less = by_order (cases_order k i)
  where
    by_order : (k ≡ i) ⊎ ((k < i) ⊎ (i < k)) → end_at grants k ≤ end_at grants i
    by_order (inl same) = let e = ap (end_at grants) same in omega (arith, e)
    by_order (inr (inl below)) = let past = p.past k below in let next = p.next i (omega arith) there in omega (arith, past, next)
    by_order (inr (inr above)) = absurd (omega arith)

-- one more grant, which begins too early for the cells to end before it
pub one_passed : (q : ℕ) (grants : List (ℕ × ℕ)) (size i base j to : ℕ) → j ≡ i + 1 → to ≡ end_at grants i → AreGrants q grants → Passed q grants size i base →
    i < length grants → base_at grants i < base + size → Passed q grants size j to
one_passed q grants size i base j to next here lie p there short = record {
  low = let above = (lie.each i (0, 0) there).above in omega (arith, above);
  least = λ c free. let low = p.least c free in
      subst (λ n. n ≤ c) (sym here) (behind-next size base (base_at grants i) (end_at grants i) c low short (free.beside i (0, 0) there));
  past = λ k less. let past = past-next q grants size i base p there k (omega arith) in omega (arith, past, here);
  next = λ k more within. let far = before-at grants lie.apart i k (omega arith) within in omega (arith, far, here);
}

-- ---- the gap

free-here : (q : ℕ) (grants : List (ℕ × ℕ)) (size i base : ℕ) → Passed q grants size i base → base + size ≤ q →
    ((k : ℕ) → i ≤ k → k < length grants → base + size ≤ base_at grants k) → IsFree q grants size base
free-here q grants size i base p within behind = record {
  above = p.low;
  within = within;
  beside = All-from_get_or (λ grant. (base + size ≤ grant.0) ⊎ (grant.0 + grant.1 ≤ base)) grants (0, 0) (λ k there. by_order k there (cases_lt k i));
}
  where
    by_order : (k : ℕ) → k < length grants → (k < i) ⊎ (i ≤ k) → (base + size ≤ base_at grants k) ⊎ (end_at grants k ≤ base)
    by_order k there (inl below) = inr (p.past k below)
    by_order k there (inr above) = inl (behind k above there)

gap-here : (q : ℕ) (grants : List (ℕ × ℕ)) (size i base : ℕ) → AreGrants q grants → 1 ≤ size → Passed q grants size i base → i ≤ length grants → base + size ≤ q →
    ((k : ℕ) → i ≤ k → k < length grants → base + size ≤ base_at grants k) → IsGap q grants size i base
gap-here q grants size i base lie least p place within behind =
    let free = free-here q grants size i base p within behind in
    record {
      first = free_base-is q grants size base free p.least;
      within = place;
      placed = and_grant-place (base, size) grants i place (λ k less. let past = p.past k less in omega (arith, past))
          (λ k more there. let far = behind k more there in omega (arith, far));
      lie = grants-and q size base grants least lie free;
    }

-- before the next grant
pub gap_before : (q : ℕ) (grants : List (ℕ × ℕ)) (size i base : ℕ) → AreGrants q grants → 1 ≤ size → Passed q grants size i base → i < length grants →
    base + size ≤ base_at grants i → IsGap q grants size i base
gap_before q grants size i base lie least p there before =
    let last = (lie.each i (0, 0) there).within in
    gap-here q grants size i base lie least p (omega arith) (omega (arith, last)) (λ k more within. by_order k within (cases_order i k) more)
  where
    by_order : (k : ℕ) → k < length grants → (i ≡ k) ⊎ ((i < k) ⊎ (k < i)) → i ≤ k → base + size ≤ base_at grants k
    by_order k within (inl same) more = let e = ap (base_at grants) same in omega (arith, e)
    by_order k within (inr (inl below)) more = let far = before-at grants lie.apart i k below within in omega (arith, far)
    by_order k within (inr (inr above)) more = absurd (omega arith)

-- behind all of them
pub gap_behind : (q : ℕ) (grants : List (ℕ × ℕ)) (size i base : ℕ) → AreGrants q grants → 1 ≤ size → Passed q grants size i base → i ≡ length grants →
    base + size ≤ q → IsGap q grants size (length grants) base
gap_behind q grants size i base lie least p all within =
    subst (λ n. IsGap q grants size n base) all (gap-here q grants size i base lie least p (omega arith) within (λ k more there. absurd (omega arith)))

-- none
pub gap_none : (q : ℕ) (grants : List (ℕ × ℕ)) (size i base : ℕ) → Passed q grants size i base → q < base + size → free_base q grants size ≡ None
gap_none q grants size i base p full = free_base-none q grants size (λ c free. let low = p.least c free in let high = free.within in omega (arith, low, high))

-- whether the grant is put in or not, the grants lie right
pub gap-kept : (q : ℕ) (grants : List (ℕ × ℕ)) (size place base at : ℕ) (made : Bool) → AreGrants q grants → IsGap q grants size place base → at ≡ place →
    AreGrants q (cond made (insert grants at (base, size)) grants)
gap-kept q grants size place base at true lie gap same =
    subst (AreGrants q) (sym (ap (λ i. insert grants i (base, size)) same ∙ gap.placed)) gap.lie
gap-kept q grants size place base at false lie gap same = lie
