-- Where tables have the entry of a literal: two places for each variable.
use Rattle.std.specs.Prelude.{ℕ, ◌+◌, ◌*◌, ℤ, pos, negsuc}

abbrev pub place_of : ℤ → ℕ
place_of (pos n) = 2 * n
place_of (negsuc n) = 2 * n + 3
