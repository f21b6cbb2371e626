-- Runs that there can be.
use Rattle.std.specs.Prelude.{◌≡◌, ℕ, ◌<◌, ◌≤◌, ◌^◌, List, length, All}

-- a run that there can be: its machine has so many cells, its image is of words and fills them, and its steps can be counted
pub record CanRun (w q grant steps : ℕ) (image : List ℕ) : Type 0 where
  pub least : 2 ≤ grant
  pub most : grant ≤ q
  pub small : grant ≤ 1048575
  pub whole : length image ≡ grant
  pub words : All (λ word. word < 2 ^ w) image
  pub counted : steps ≤ 1000000
