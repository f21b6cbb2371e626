-- Numbers of n bits, and what is computed on them.
use Rattle.std.specs.Prelude.{ℕ, ◌+◌, ◌-◌, ◌*◌, ◌/◌, ◌%◌, ◌^◌, ◌≤◌, ◌==◌, nat_lt, if◌then◌else◌}

-- a width that a value can have
pub record IsWidth (n : ℕ) : Type 0 where
  pub least : 1 ≤ n
  pub most : n ≤ 64

-- the sum modulo 2^n
abbrev pub sum_of : ℕ → ℕ → ℕ → ℕ
sum_of n x y = (x + y) % 2 ^ n

-- the difference modulo 2^n
abbrev pub difference_of : ℕ → ℕ → ℕ → ℕ
difference_of n x y = (x + (2 ^ n - y)) % 2 ^ n

-- the product modulo 2^n
abbrev pub product_of : ℕ → ℕ → ℕ → ℕ
product_of n x y = x * y % 2 ^ n

-- each of the n bits changed
abbrev pub complement_of : ℕ → ℕ → ℕ
complement_of n x = 2 ^ n - 1 - x

-- moved left by y places, zeros moved in; 0 from n places on
abbrev pub left_shifted : ℕ → ℕ → ℕ → ℕ
left_shifted n x y = (if nat_lt y n then x * 2 ^ y % 2 ^ n else 0)

-- moved right by y places, zeros moved in; 0 from n places on
abbrev pub right_shifted : ℕ → ℕ → ℕ → ℕ
right_shifted n x y = (if nat_lt y n then x / 2 ^ y else 0)

-- bits k to h
abbrev pub bits_between : ℕ → ℕ → ℕ → ℕ
bits_between x h k = x / 2 ^ k % 2 ^ (h - k + 1)

-- x above the `low` bits of y
abbrev pub joined : ℕ → ℕ → ℕ → ℕ
joined x low y = x * 2 ^ low + y

-- n bits widened to `to` by copies of the top bit
abbrev pub sign_extended : ℕ → ℕ → ℕ → ℕ
sign_extended x n to = (if nat_lt x (2 ^ (n - 1)) then x else x + (2 ^ to - 2 ^ n))

-- 1 where the numbers are equal, else 0
abbrev pub equal_bit : ℕ → ℕ → ℕ
equal_bit x y = (if x == y then 1 else 0)

-- 1 where x is below y, else 0
abbrev pub below_bit : ℕ → ℕ → ℕ
below_bit x y = (if nat_lt x y then 1 else 0)
