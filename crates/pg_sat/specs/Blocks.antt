-- Flags by blocks of 64.
use Rattle.std.specs.Prelude.{ℕ, ◌≡◌, ◌/◌, Bool, true, false, List, slice_index_or}

-- where a flag is up, that of its block is up, as it is taken to be past the last block
unfoldable pub AreCovered : List Bool → List Bool → Type 0
AreCovered flags blocks = (n : ℕ) → slice_index_or flags n false ≡ true → slice_index_or blocks (n / 64) true ≡ true
