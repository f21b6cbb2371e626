-- Draws: numbers that follow from a first one, by the linear congruential generator of Knuth's MMIX.
use Rattle.std.specs.Prelude.{ℕ, zero, suc, ◌+◌, ◌*◌, ◌/◌, ◌%◌, ◌^◌}

-- the state behind one more draw
unfoldable pub next_state : ℕ → ℕ
next_state x = (x * 6364136223846793005 + 1442695040888963407) % 2 ^ 64

-- the state behind so many draws, which begins as a number
unfoldable pub state_behind : ℕ → ℕ → ℕ
state_behind number zero = number
state_behind number (suc n) = next_state (state_behind number n)

-- the draw of this place, counted from 0: the high half of the state behind it
abbrev pub draw : ℕ → ℕ → ℕ
draw number n = state_behind number (suc n) / 2 ^ 32
