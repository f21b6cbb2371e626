-- What a part of a line says.
use Rattle.std.proofs.Common.{◌≡◌, ℕ, ◌-◌, ◌/◌, ◌^◌, ◌<◌, ◌≤◌, true, List, [], ◌∷◌, length, Some, refl, lit<, arith}
use Rattle.std.specs.Prelude.{IsTrue, ◌==◌, ◌&&◌, nat_le, slice_index}
use Rattle.std.specs.List.{list_all}
use Rattle.std.specs.Char.{is_ascii_digit, is_ascii_hexdigit}
use Rattle.std.specs.Str.Parse.{digits_value}
use Rattle.std.proofs.Math.Nat.{pow-le-pow_right}
use Rattle.std.proofs.lemmas.Bool.{and_parts, leb-true}
use Rattle.std.proofs.lemmas.Int.Digits.{digits_value-lt}
use Rattle.pg_text.specs.Cutting.{dec_number}
use Rattle.pg_text.specs.Printing.{hex_word_of}
use Rattle.pg_text.proofs.Digits.{dec_digits, limited_is}
use Rattle.pg_image.specs.Images.{most_address_digits, is_address, address_digits, is_word}

-- what an address is
pub record Address (part : List ℕ) : Type 0 where
  pub long : 1 ≤ length part
  pub some : nat_le 1 (length (address_digits part)) ≡ true
  pub short : length (address_digits part) ≤ most_address_digits
  pub digits : list_all is_ascii_digit (address_digits part) ≡ true

pub address_is : (part : List ℕ) → IsTrue (is_address part) → Address part
unfolding is_address
address_is [] h = cc
address_is (x ∷ xs) h =
    let part : List ℕ = x ∷ xs in
    let ends = and_parts (((slice_index part (length part - 1) == 58) && nat_le 1 (length (address_digits part))) && nat_le (length (address_digits part)) most_address_digits) (list_all is_ascii_digit (address_digits part)) h in
    let short = and_parts ((slice_index part (length part - 1) == 58) && nat_le 1 (length (address_digits part))) (nat_le (length (address_digits part)) most_address_digits) ends.0 in
    let some = and_parts (slice_index part (length part - 1) == 58) (nat_le 1 (length (address_digits part))) short.0 in
    record { long = omega arith; some = some.1; short = leb-true (length (address_digits part)) most_address_digits short.1; digits = ends.1 }

-- its number
pub address_number : (part : List ℕ) → IsTrue (is_address part) → dec_number (address_digits part) ≡ Some (digits_value 10 (address_digits part))
address_number part h =
    let a = address_is part h in
    let digits : List ℕ = address_digits part in
    let below = digits_value-lt 10 digits (dec_digits digits a.digits) in
    let most : 10 ^ length digits ≤ 10 ^ most_address_digits = pow-le-pow_right (lit< tt) a.short in
    let fits : digits_value 10 digits < 2 ^ 64 = omega arith in
    rw (a.some, a.digits) (limited_is (digits_value 10 digits) fits)

-- a word's number
pub word_number : (w : ℕ) (part : List ℕ) → IsTrue (is_word w part) → hex_word_of w part ≡ Some (digits_value 16 part)
unfolding is_word
word_number w part h =
    let test : ((length part == w / 4) && list_all is_ascii_hexdigit part) ≡ true = h in
    rw test refl
