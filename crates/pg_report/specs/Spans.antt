-- A run of the cells of a storage.
use Rattle.std.specs.Prelude.{ℕ, List, take, drop}

-- the cells from cell `base` on, so many of them
abbrev pub span : ℕ → ℕ → List ℕ → List ℕ
span base size cells = take size (drop base cells)
