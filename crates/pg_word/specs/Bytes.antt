-- Numbers as bytes, the high end first.
use Rattle.std.specs.Prelude.{ℕ, zero, suc, ◌+◌, ◌*◌, ◌/◌, ◌%◌, List, [], ◌∷◌, ◌++◌}

-- the number that bytes write behind those of n
abbrev pub bytes_value_after : ℕ → List ℕ → ℕ
bytes_value_after n [] = n
bytes_value_after n (b ∷ bs) = bytes_value_after (n * 256 + b) bs

-- the number that bytes write
abbrev pub bytes_value : List ℕ → ℕ
bytes_value bytes = bytes_value_after 0 bytes

-- the lowest n bytes of a number
unfoldable pub low_bytes : ℕ → ℕ → List ℕ
low_bytes zero value = []
low_bytes (suc n) value = low_bytes n (value / 256) ++ value % 256 ∷ []
