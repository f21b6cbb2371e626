-- Hexadecimal digits of a number: how many they are, and what they stand for.
use Rattle.std.proofs.Common.{◌≡◌, ℕ, zero, suc, ◌+◌, ◌*◌, ◌/◌, ◌%◌, ◌^◌, ◌<◌, false, [], ◌∷◌, length, sym, ap, ◌∙◌, refl, arith, length-append}
use Rattle.std.specs.Fmt.{digit_glyph}
use Rattle.std.specs.Char.{digit_value}
use Rattle.std.specs.Str.Parse.{digits_value}
use Rattle.std.proofs.Math.Nat.{pow-suc}
use Rattle.std.proofs.Math.Pow.{pow-add}
use Rattle.std.proofs.lemmas.Int.Digits.{digits_value_push}
use Rattle.std.proofs.lemmas.Bool.Decides.{nat_tests}
use Rattle.pg_text.specs.Printing.{hex_text}

-- so many digits
pub length-hex_text : (n value : ℕ) → length (hex_text n value) ≡ n
unfolding hex_text
length-hex_text zero value = refl
length-hex_text (suc n) value = omega (arith, length-append (hex_text n (value / 16)) (digit_glyph false (value % 16) ∷ []), length-hex_text n (value / 16))

digit_of_glyph : (d : ℕ) → d < 16 → digit_value (digit_glyph false d) ≡ d
digit_of_glyph d h = grind (arith, nat_tests)

quotient_below : (n value : ℕ) → value < 16 ^ suc n → value / 16 < 16 ^ n
quotient_below n value h = omega (arith, pow-suc 16 n)

whole_again : (value q r : ℕ) → q ≡ value / 16 → r ≡ value % 16 → q * 16 + r ≡ value
whole_again value q r e f = omega arith

-- the number again
pub digits_value-hex_text : (n value : ℕ) → value < 16 ^ n → digits_value 16 (hex_text n value) ≡ value
unfolding hex_text
digits_value-hex_text zero value h = omega arith
digits_value-hex_text (suc n) value h =
    digits_value_push 16 (hex_text n (value / 16)) (digit_glyph false (value % 16))
    ∙ whole_again value (digits_value 16 (hex_text n (value / 16))) (digit_value (digit_glyph false (value % 16)))
    (digits_value-hex_text n (value / 16) (quotient_below n value h)) (digit_of_glyph (value % 16) (omega arith))

pow_sixteen : (k : ℕ) → 2 ^ (4 * k) ≡ 16 ^ k
pow_sixteen zero = refl
pow_sixteen (suc k) =
    let e : 4 * suc k ≡ 4 * k + 4 = omega arith in
    ap (λ x. 2 ^ x) e ∙ pow-add 2 (4 * k) 4 ∙ ap (λ x. x * 16) (pow_sixteen k) ∙ sym (pow-suc 16 k)

-- a word of w bits has a digit for each four of them
pub sixteens : (w : ℕ) → w % 8 ≡ 0 → 16 ^ (w / 4) ≡ 2 ^ w
sixteens w h =
    let e : w ≡ 4 * (w / 4) = omega arith in
    sym (ap (λ x. 2 ^ x) e ∙ pow_sixteen (w / 4))

pub word_below : (w value : ℕ) → w % 8 ≡ 0 → value < 2 ^ w → value < 16 ^ (w / 4)
word_below w value h lt = let e = sixteens w h in omega (arith, e)
