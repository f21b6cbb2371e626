-- Grants: runs of cells of a storage, each its base and its size.
use Rattle.std.specs.Prelude.{◌≡◌, ℕ, ◌+◌, ◌<◌, ◌≤◌, Bool, not, cond, nat_lt, ◌==◌, List, [], ◌∷◌, length, All, Some, slice_index_or}
use Rattle.std.specs.List.{AllPairs, filter, insert, list_any}
use Rattle.pg_alloc.specs.Fit.{kept_cells, free_base}

-- ---- how grants lie

-- a grant of one cell or more, behind the cells that are kept and within q
pub record IsGrant (q : ℕ) (grant : ℕ × ℕ) : Type 0 where
  pub above : kept_cells ≤ grant.0
  pub least : 1 ≤ grant.1
  pub within : grant.0 + grant.1 ≤ q

-- a grant ends before another begins
abbrev pub IsBefore : ℕ × ℕ → ℕ × ℕ → Type 0
IsBefore grant later = grant.0 + grant.1 ≤ later.0

-- grants that lie right in a storage of q cells: each ends before every later one begins, so their bases ascend, and no two have a cell in common
pub record AreGrants (q : ℕ) (grants : List (ℕ × ℕ)) : Type 0 where
  pub each : All (IsGrant q) grants
  pub apart : AllPairs IsBefore grants

-- a cell of the grant at place i
pub record IsCellOf (grants : List (ℕ × ℕ)) (i cell : ℕ) : Type 0 where
  pub there : i < length grants
  pub from : (slice_index_or grants i (0, 0)).0 ≤ cell
  pub before : cell < (slice_index_or grants i (0, 0)).0 + (slice_index_or grants i (0, 0)).1

-- the grants in a storage of q cells
pub record Granted : Type 0 where
  pub q : ℕ
  pub grants : List (ℕ × ℕ)

-- ---- one more, and one less

-- these grants and one more, before the first whose base is greater
abbrev pub and_grant : ℕ × ℕ → List (ℕ × ℕ) → List (ℕ × ℕ)
and_grant grant [] = grant ∷ []
and_grant grant (first ∷ rest) = cond (nat_lt grant.0 first.0) (grant ∷ first ∷ rest) (first ∷ and_grant grant rest)

-- whether one of these has the base
abbrev pub is_granted : ℕ → List (ℕ × ℕ) → Bool
is_granted base grants = list_any (λ grant. grant.0 == base) grants

-- these but the one that has the base
abbrev pub but_grant : ℕ → List (ℕ × ℕ) → List (ℕ × ℕ)
but_grant base grants = filter (λ grant. not (grant.0 == base)) grants

-- ---- the gap that one more goes into

-- the least base at which `size` cells are free, and the place among these grants at which a grant there stands
pub record IsGap (q : ℕ) (grants : List (ℕ × ℕ)) (size place base : ℕ) : Type 0 where
  pub first : free_base q grants size ≡ Some base
  pub within : place ≤ length grants
  pub placed : insert grants place (base, size) ≡ and_grant (base, size) grants
  pub lie : AreGrants q (and_grant (base, size) grants)
