-- How a line is shown.
use Rattle.std.specs.Prelude.{ℕ, Bool, ◌&&◌, ◌||◌, ◌==◌, not, nat_le}

-- a byte that is no control character, or a tab
abbrev pub is_shown : ℕ → Bool
is_shown b = (nat_le 32 b && not (b == 127)) || (b == 9)
