-- Sums of numbers, bit by bit.
use Rattle.std.proofs.Common.{◌≡◌, ℕ, ◌+◌, ◌-◌, ◌*◌, ◌%◌, ◌^◌, ◌<◌, Bool, true, false, not, nat_lt, nat_eq, ◌&&◌, refl, sym, ap, ◌∙◌, arith, suc, add-one, bit_and, bit_or, bit_xor, ◌||◌}
use Rattle.std.specs.Prelude.{if◌then◌else◌}
use Rattle.std.proofs.lemmas.Bool.Decides.{nat_tests}
use Rattle.std.proofs.lemmas.Nat.{shr_high, mod_low, mod-pow-add, pow-add, and_block, or_block, xor_block}
use Rattle.pg_circuit.specs.Values.{differ}
use Rattle.pg_vec.specs.Number.{bit_of}

pub bit_of-below : (b : Bool) → bit_of b < 2
bit_of-below true = omega arith
bit_of-below false = omega arith

-- at least two are true
abbrev pub carried : Bool → Bool → Bool → Bool
carried x y c = not (not (x && y) && not (differ x y && c))

pub full_adder : (x y c : Bool) → bit_of (differ (differ x y) c) + bit_of (carried x y c) * 2 ≡ bit_of x + bit_of y + bit_of c
full_adder true true true = refl
full_adder true true false = refl
full_adder true false true = refl
full_adder true false false = refl
full_adder false true true = refl
full_adder false true false = refl
full_adder false false true = refl
full_adder false false false = refl

pub pow-more : (n : ℕ) → 2 ^ suc n ≡ 2 ^ n * 2
pow-more n = ap (λ k. 2 ^ k) (sym (add-one n)) ∙ pow-add 2 n 1

-- modulo 2^(n + 1), above a bit
pub mod-bit : (n t s : ℕ) → s < 2 → (t * 2 + s) % 2 ^ suc n ≡ t % 2 ^ n * 2 + s
mod-bit n t s h =
    ap (λ k. (t * 2 + s) % 2 ^ k) (sym (add-one n))
    ∙ mod-pow-add (t * 2 + s) n 1
    ∙ ap (λ k. k % 2 ^ n * 2 ^ 1 + (t * 2 + s) % 2 ^ 1) (shr_high t 1 s h)
    ∙ ap (λ k. t % 2 ^ n * 2 + k) (mod_low t 1 s h)

pub sum-more : (n x y bx by c d s : ℕ) → s < 2 → s + d * 2 ≡ bx + by + c → (x + y + d) % 2 ^ n * 2 + s ≡ (x * 2 + bx + (y * 2 + by) + c) % 2 ^ suc n
sum-more n x y bx by c d s h e =
    let f : x * 2 + bx + (y * 2 + by) + c ≡ (x + y + d) * 2 + s = omega arith in
    sym (ap (λ t. t % 2 ^ suc n) f ∙ mod-bit n (x + y + d) s h)

pub below-bit : (t s p : ℕ) → s < 2 → nat_lt (t * 2 + s) (p * 2) ≡ nat_lt t p
below-bit t s p h = grind (arith, nat_tests)

pub below-more : (n x y bx by c d s : ℕ) → s < 2 → s + d * 2 ≡ bx + by + c → nat_lt (x + y + d) (2 ^ n) ≡ nat_lt (x * 2 + bx + (y * 2 + by) + c) (2 ^ suc n)
below-more n x y bx by c d s h e =
    let f : x * 2 + bx + (y * 2 + by) + c ≡ (x + y + d) * 2 + s = omega arith in
    sym (ap (λ t. nat_lt t (2 ^ suc n)) f ∙ ap (λ t. nat_lt ((x + y + d) * 2 + s) t) (pow-more n) ∙ below-bit (x + y + d) s (2 ^ n) h)

pub bit_of-not : (b : Bool) → bit_of (not b) + bit_of b ≡ 1
bit_of-not true = refl
bit_of-not false = refl

pub bit_of-if : (b : Bool) → bit_of b ≡ (if b then 1 else 0)
bit_of-if true = refl
bit_of-if false = refl

-- x + not y + 1, where `f` is not y: with no carry out x is below y, and modulo p it is the difference
pub below-flipped : (x y f p : ℕ) → f + y + 1 ≡ p → nat_lt (x + f + 1) p ≡ nat_lt x y
below-flipped x y f p e = grind (arith, nat_tests)

pub difference-flipped : (x y f p : ℕ) → f + y + 1 ≡ p → (x + f + 1) % p ≡ (x + (p - y)) % p
difference-flipped x y f p e = ap (λ k. k % p) (omega arith)

pub same-bit : (x y : ℕ) (a b : Bool) → not (differ a b) && nat_eq x y ≡ nat_eq (x * 2 + bit_of a) (y * 2 + bit_of b)
same-bit x y true true = grind (arith, nat_tests)
same-bit x y true false = grind (arith, nat_tests)
same-bit x y false true = grind (arith, nat_tests)
same-bit x y false false = grind (arith, nat_tests)

and_bits : (a b : Bool) → bit_and (bit_of a) (bit_of b) ≡ bit_of (a && b)
and_bits true true = refl
and_bits true false = refl
and_bits false true = refl
and_bits false false = refl

or_bits : (a b : Bool) → bit_or (bit_of a) (bit_of b) ≡ bit_of (a || b)
or_bits true true = refl
or_bits true false = refl
or_bits false true = refl
or_bits false false = refl

xor_bits : (a b : Bool) → bit_xor (bit_of a) (bit_of b) ≡ bit_of (differ a b)
xor_bits true true = refl
xor_bits true false = refl
xor_bits false true = refl
xor_bits false false = refl

pub and-bit : (x y : ℕ) (a b : Bool) → bit_and (x * 2 + bit_of a) (y * 2 + bit_of b) ≡ bit_and x y * 2 + bit_of (a && b)
and-bit x y a b = and_block 1 x y (bit_of a) (bit_of b) (bit_of-below a) (bit_of-below b) ∙ ap (λ k. bit_and x y * 2 + k) (and_bits a b)

pub or-bit : (x y : ℕ) (a b : Bool) → bit_or (x * 2 + bit_of a) (y * 2 + bit_of b) ≡ bit_or x y * 2 + bit_of (a || b)
or-bit x y a b = or_block 1 x y (bit_of a) (bit_of b) (bit_of-below a) (bit_of-below b) ∙ ap (λ k. bit_or x y * 2 + k) (or_bits a b)

pub xor-bit : (x y : ℕ) (a b : Bool) → bit_xor (x * 2 + bit_of a) (y * 2 + bit_of b) ≡ bit_xor x y * 2 + bit_of (differ a b)
xor-bit x y a b = xor_block 1 x y (bit_of a) (bit_of b) (bit_of-below a) (bit_of-below b) ∙ ap (λ k. bit_xor x y * 2 + k) (xor_bits a b)
