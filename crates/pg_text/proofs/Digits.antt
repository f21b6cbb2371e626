-- Digits that std reads: a run of them is a numeral, and its number is the one that is due.
use Rattle.std.proofs.Common.{◌^◌, ◌≡◌, ℕ, ◌<◌, ◌≤◌, true, List, [], ◌∷◌, Some, IsAscii, arith}
use Rattle.std.proofs.lemmas.Bool.{and_parts}
use Rattle.std.proofs.lemmas.Bool.Decides.{nat_tests}
use Rattle.std.proofs.lemmas.Str.Ascii.{IsAscii-nil, IsAscii-cons}
use Rattle.std.specs.Prelude.{IsUtf8}
use Rattle.std.specs.List.{list_all}
use Rattle.std.specs.Char.{digit_value, is_ascii_hexdigit}
use Rattle.std.specs.Str.Parse.{AllDigits}
use Rattle.std.proofs.lemmas.Str.{IsUtf8-from_ascii}
use Rattle.pg_lang_token.specs.Words.{is_digit}
use Rattle.pg_text.specs.Cutting.{limited}

dec_digit : (c : ℕ) → is_digit c ≡ true → digit_value c < 10
dec_digit c h = grind (arith, nat_tests)

hex_digit : (c : ℕ) → is_ascii_hexdigit c ≡ true → digit_value c < 16
hex_digit c h = grind (arith, nat_tests)

pub dec_digits : (ds : List ℕ) → list_all is_digit ds ≡ true → AllDigits 10 ds
dec_digits [] h = tt
dec_digits (c ∷ cs) h =
    let parts = and_parts (is_digit c) (list_all is_digit cs) h in
    (dec_digit c parts.0, dec_digits cs parts.1)

pub hex_digits : (ds : List ℕ) → list_all is_ascii_hexdigit ds ≡ true → AllDigits 16 ds
hex_digits [] h = tt
hex_digits (c ∷ cs) h =
    let parts = and_parts (is_ascii_hexdigit c) (list_all is_ascii_hexdigit cs) h in
    (hex_digit c parts.0, hex_digits cs parts.1)

-- a digit of any base is an ASCII byte, and no sign
ascii_digit : (c base : ℕ) → base ≤ 36 → digit_value c < base → c < 128
ascii_digit c base most h = grind (arith, nat_tests)

ascii_digits : (base : ℕ) (ds : List ℕ) → base ≤ 36 → AllDigits base ds → IsAscii ds
ascii_digits base [] most h = IsAscii-nil
ascii_digits base (c ∷ cs) most h = IsAscii-cons c cs (ascii_digit c base most h.0) (ascii_digits base cs most h.1)

pub digits_utf8 : (base : ℕ) (ds : List ℕ) → base ≤ 36 → AllDigits base ds → IsUtf8 ds
digits_utf8 base ds most h = IsUtf8-from_ascii ds (ascii_digits base ds most h)

-- a number below the limit
pub limited_is : (v : ℕ) → v < 2 ^ 64 → limited v ≡ Some v
limited_is v h = grind (arith, nat_tests)
