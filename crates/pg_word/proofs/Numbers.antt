-- Numbers of n bits: what 64-bit arithmetic leaves of them, and that each result fits its width.
use Rattle.std.proofs.Common.{◌≡◌, ℕ, ◌+◌, ◌-◌, ◌*◌, ◌/◌, ◌%◌, ◌^◌, ◌<◌, ◌≤◌, bit_or, suc, zero, zero-add, sym, ap, ◌∙◌, arith, inl, inr}
use Rattle.std.proofs.Math.Nat.{add-mul-mod_self_left, div-eq_of_lt, mod-eq_of_lt, mul_comm, zero-mul}
use Rattle.std.proofs.Math.Pow.{pow-add, pow_mono, pow_pos, mod-mod-pow, ones_sub-lt, suc_ones}
use Rattle.std.proofs.lemmas.Bool.{cases_lt, le-ltb, lt-ltb}
use Rattle.std.proofs.lemmas.Bool.Decides.{nat_tests}
use Rattle.std.proofs.lemmas.Nat.{mod_below, or_shifted, shr_below, le-div, mul-add-lt, shr_le}
use Rattle.std.proofs.lemmas.Nat.Bits.{ones_shr}
use Rattle.std.specs.Int.Bits.{or_zero_l}
use Rattle.pg_word.specs.Bits.{sum_of, difference_of, product_of, complement_of, left_shifted, right_shifted, bits_between, joined, sign_extended, equal_bit, below_bit}

-- ---- in words of 64 bits

-- n ones are what 64 of them leave after 64 - n places
pub ones_left : (n : ℕ) → n ≤ 64 → 18446744073709551615 / 2 ^ (64 - n) ≡ 2 ^ n - 1
ones_left n h =
    let e : 64 - (64 - n) ≡ n = omega arith in
    ones_shr 64 (64 - n) (omega arith) ∙ ap (λ k. 2 ^ k - 1) e

-- what wraps at 64 bits first is cut to the same n bits
pub mod_64_mod : (n x : ℕ) → n ≤ 64 → x % 2 ^ 64 % 2 ^ n ≡ x % 2 ^ n
mod_64_mod n x h =
    let e : 64 ≡ 64 - n + n = omega arith in
    ap (λ k. x % 2 ^ k % 2 ^ n) e ∙ mod-mod-pow x (64 - n) n

-- a multiple of p may stand for p itself in a difference modulo p
sub_multiple_mod : (x y p m j : ℕ) → m ≡ p * suc j → y ≤ p → (x + (m - y)) % p ≡ (x + (p - y)) % p
sub_multiple_mod x y p m j e h =
    let s : x + (m - y) ≡ x + (p - y) + p * j = grind arith in
    ap (λ t. t % p) s ∙ add-mul-mod_self_left (x + (p - y)) p j

-- a difference that wraps at 64 bits first
pub sub_64_mod : (n x y : ℕ) → n ≤ 64 → y ≤ 2 ^ n → (x + (2 ^ 64 - y)) % 2 ^ 64 % 2 ^ n ≡ (x + (2 ^ n - y)) % 2 ^ n
sub_64_mod n x y h le =
    let e : 64 ≡ n + (64 - n) = omega arith in
    let m : 2 ^ 64 ≡ 2 ^ n * suc (2 ^ (64 - n) - 1) =
    ap (λ k. 2 ^ k) e ∙ pow-add 2 n (64 - n) ∙ ap (λ t. 2 ^ n * t) (sym (suc_ones (64 - n))) in
    mod_64_mod n (x + (2 ^ 64 - y)) h ∙ sub_multiple_mod x y (2 ^ n) (2 ^ 64) (2 ^ (64 - n) - 1) m le

-- what is moved left by k places and stays below 2^64 is 0, or k is below 64
shl_room : (h k l : ℕ) → suc h * 2 ^ k + l < 2 ^ 64 → k < 64
shl_room h k l all =
    elim (cases_lt k 64) [ inl e ↦ e | inr e ↦ absurd (omega (arith, pow_mono e)) ]

-- a shift by 64 that wraps to one by 0 moves nothing but 0
pub or_wrapping_shl : (h k l : ℕ) → l < 2 ^ k → h * 2 ^ k + l < 2 ^ 64 → bit_or (h * 2 ^ (k % 64) % 2 ^ 64) l ≡ h * 2 ^ k + l
or_wrapping_shl zero k l fits all = simp (zero-mul, or_zero_l, zero-add)
or_wrapping_shl (suc h) k l fits all =
    ap (λ t. bit_or (suc h * 2 ^ t % 2 ^ 64) l) (mod-eq_of_lt (shl_room h k l all))
    ∙ ap (λ t. bit_or t l) (mod-eq_of_lt (omega arith))
    ∙ or_shifted (suc h) k l fits

-- a number of n bits has one bit from place n - 1 on
shr_top_bit : (x n : ℕ) → 1 ≤ n → x < 2 ^ n → x / 2 ^ (n - 1) < 2
shr_top_bit x n least h = shr_below x 1 (n - 1) (let e : 1 + (n - 1) ≡ n = omega arith in rw e h)

-- the ones of a sign, added where the top bit is 1
pub add_top_bit_mul : (x n to : ℕ) → 1 ≤ n → x < 2 ^ n → x + x / 2 ^ (n - 1) * (2 ^ to - 2 ^ n) ≡ sign_extended x n to
add_top_bit_mul x n to least h =
    let below : x / 2 ^ (n - 1) < 2 = shr_top_bit x n least h in
    let pos : 0 < 2 ^ (n - 1) = pow_pos (n - 1) in
    elim (cases_lt x (2 ^ (n - 1))) [
      | inl e ↦ rw (lt-ltb _ _ e) (rw (div-eq_of_lt e) (omega arith))
      | inr e ↦ let one : x / 2 ^ (n - 1) ≡ 1 = omega (arith, le-div 1 x (2 ^ (n - 1)) pos (omega arith)) in rw (le-ltb _ _ e) (rw one (omega arith))
    ]

-- ---- what fits

-- a number fits every greater width
pub below_pow_wider : (x n k : ℕ) → x < 2 ^ n → n ≤ k → x < 2 ^ k
below_pow_wider x n k h le = omega (arith, pow_mono le)

-- k bits above a bits
pub mul_pow_add_below : (k a h l : ℕ) → h < 2 ^ k → l < 2 ^ a → h * 2 ^ a + l < 2 ^ (k + a)
mul_pow_add_below k a h l p q = let e : 2 ^ (k + a) ≡ 2 ^ a * 2 ^ k = pow-add 2 k a ∙ mul_comm (2 ^ k) (2 ^ a) in omega (arith, e, mul-add-lt h (2 ^ a) l (2 ^ k) p q)

pub sum_of_below : (n x y : ℕ) → sum_of n x y < 2 ^ n
sum_of_below n x y = mod_below _ _ (pow_pos n)

pub difference_of_below : (n x y : ℕ) → difference_of n x y < 2 ^ n
difference_of_below n x y = mod_below _ _ (pow_pos n)

pub product_of_below : (n x y : ℕ) → product_of n x y < 2 ^ n
product_of_below n x y = mod_below _ _ (pow_pos n)

pub complement_of_below : (n x : ℕ) → complement_of n x < 2 ^ n
complement_of_below n x = ones_sub-lt n x

pub left_shifted_below : (n x y : ℕ) → left_shifted n x y < 2 ^ n
left_shifted_below n x y = grind (arith, nat_tests, mod_below (x * 2 ^ y) (2 ^ n) (pow_pos n), pow_pos n)

pub right_shifted_below : (n x y : ℕ) → x < 2 ^ n → right_shifted n x y < 2 ^ n
right_shifted_below n x y h = grind (arith, nat_tests, shr_le x y)

pub bits_between_below : (x h k : ℕ) → bits_between x h k < 2 ^ (h - k + 1)
bits_between_below x h k = mod_below _ _ (pow_pos (h - k + 1))

pub joined_below : (m low x y : ℕ) → x < 2 ^ m → y < 2 ^ low → joined x low y < 2 ^ (m + low)
joined_below = mul_pow_add_below

pub sign_extended_below : (x n to : ℕ) → x < 2 ^ n → n ≤ to → sign_extended x n to < 2 ^ to
sign_extended_below x n to h le = let e : 2 ^ n ≤ 2 ^ to = pow_mono le in grind (arith, nat_tests)

pub equal_bit_below : (x y : ℕ) → equal_bit x y < 2
equal_bit_below x y = grind (arith, nat_tests)

pub below_bit_below : (x y : ℕ) → below_bit x y < 2
below_bit_below x y = grind (arith, nat_tests)
