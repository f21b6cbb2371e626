-- First fit: where a grant is placed among others.
use Rattle.std.specs.Prelude.{ℕ, ◌+◌, ◌-◌, ◌≤◌, ◌⊎◌, Bool, ◌&&◌, ◌||◌, nat_le, List, All, Option}
use Rattle.std.specs.List.{find, list_all, range_with_len}

-- the cells that a monitor keeps for traps: cell 0, where one is stored, and cell 1, which is loaded then
abbrev pub kept_cells : ℕ
kept_cells = 2

-- whether `size` cells from a base on have no cell in common with a grant, which is its base and its size
abbrev pub is_beside : ℕ → ℕ → ℕ × ℕ → Bool
is_beside size base grant = nat_le (base + size) grant.0 || nat_le (grant.0 + grant.1) base

-- whether they lie within q cells, and beside all of these grants
abbrev pub is_free : ℕ → List (ℕ × ℕ) → ℕ → ℕ → Bool
is_free q grants size base = nat_le (base + size) q && list_all (is_beside size base) grants

-- first fit: the least base, behind the cells that are kept and up to q, at which `size` cells are free; none where they are free at none
unfoldable pub free_base : ℕ → List (ℕ × ℕ) → ℕ → Option ℕ
free_base q grants size = find (is_free q grants size) (range_with_len kept_cells (q - 1))

-- the same as a relation: `size` cells from a base on lie behind the cells that are kept, within q cells, and beside all of these grants
pub record IsFree (q : ℕ) (grants : List (ℕ × ℕ)) (size base : ℕ) : Type 0 where
  pub above : kept_cells ≤ base
  pub within : base + size ≤ q
  pub beside : All (λ grant. (base + size ≤ grant.0) ⊎ (grant.0 + grant.1 ≤ base)) grants
