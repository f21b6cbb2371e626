-- Hexadecimal digits of bytes: what `hex` writes of the bytes of a word are the digits of the word, and what it reads are
-- the bytes of the number that the digits write.
use Rattle.std.proofs.Common.{◌≡◌, ℕ, zero, suc, ◌+◌, ◌-◌, ◌*◌, ◌/◌, ◌%◌, ◌^◌, ◌<◌, ◌≤◌, ◌==◌, ◌&&◌, Bool, true, false, List, [], ◌∷◌, ◌++◌, length, slice_index, take, drop, is_ok, OnOk, eq-eqb, Some, None, Result, Ok, Err, IsOk, cond, refl, sym, ap, ◌∙◌, arith, inl, inr}
use Rattle.std.proofs.lemmas.Bool.{and_parts, cases_lt, eqb-true}
use Rattle.std.proofs.lemmas.Bool.Decides.{nat_tests}
use Rattle.std.proofs.lemmas.List.{append_assoc, length-append, length-take, take_all}
use Rattle.std.proofs.lemmas.List.Elements.{All-head, All-tail}
use Rattle.std.proofs.Math.Seq.{take-append_seam}
use Rattle.std.specs.Prelude.{MatchResult}
use Rattle.std.specs.List.{list_all, AllPass, refill}
use Rattle.std.specs.Char.{digit_value, is_ascii_hexdigit}
use Rattle.std.specs.Fmt.{digit_glyph}
use Rattle.std.specs.Str.Parse.{digits_value, digits_value_after}
use Rattle.hex.specs.Hex.{lower_digits, encode_with, encode_lower, decode_pairs, decode_sized, hex_digit_value, is_hex_digit, pair_value}
use Rattle.hex.specs.declared.error.FromHexError.{FromHexError}
use Rattle.hex.proofs.Pairs.{cons_byte, decode_pairs-ok_pair, decode_sized-pairs}
use Rattle.hex.proofs.HexLemmas.{IsOk-decode_sized}
use Rattle.pg_word.specs.Bytes.{bytes_value, bytes_value_after, low_bytes}
use Rattle.pg_text.specs.Printing.{hex_text, hex_word_of}
use Rattle.pg_text.proofs.Hex.{length-hex_text, sixteens}
use Rattle.pg_text.proofs.Digits.{hex_digits}
use Rattle.std.proofs.lemmas.Int.Digits.{digits_value-lt}

-- ---- written

-- the digits of `hex` are those of std, which is computed for each
abbrev agree : ℕ → Bool
agree zero = true
agree (suc n) = (slice_index lower_digits n == digit_glyph false n) && agree n

agree-at : (n k : ℕ) → agree n ≡ true → k < n → slice_index lower_digits k ≡ digit_glyph false k
agree-at zero k h lt = absurd (omega arith)
agree-at (suc n) k h lt =
    let parts = and_parts (slice_index lower_digits n == digit_glyph false n) (agree n) h in
    elim (cases_lt k n) [
      | inl below ↦ agree-at n k parts.1 below
      | inr top ↦
          let e : k ≡ n = omega arith in
          rw e (eqb-true (slice_index lower_digits n) (digit_glyph false n) parts.0)
    ]

glyph : (d : ℕ) → d < 16 → slice_index lower_digits d ≡ digit_glyph false d
glyph d h = agree-at 16 d refl h

encode-last : (bytes : List ℕ) (b : ℕ) → encode_lower (bytes ++ b ∷ []) ≡ encode_lower bytes ++ slice_index lower_digits (b / 16) ∷ slice_index lower_digits (b % 16) ∷ []
unfolding encode_with
encode-last [] b = refl
encode-last (a ∷ more) b = ap (λ t. slice_index lower_digits (a / 16) ∷ slice_index lower_digits (a % 16) ∷ t) (encode-last more b)

-- two digits more
two_more : (m value : ℕ) → hex_text (suc (suc m)) value ≡ hex_text m (value / 256) ++ digit_glyph false (value / 16 % 16) ∷ digit_glyph false (value % 16) ∷ []
unfolding hex_text
two_more m value =
    let quotient : value / 16 / 16 ≡ value / 256 = omega arith in
    append_assoc (hex_text m (value / 16 / 16)) (digit_glyph false (value / 16 % 16) ∷ []) (digit_glyph false (value % 16) ∷ [])
    ∙ ap (λ q. hex_text m q ++ digit_glyph false (value / 16 % 16) ∷ digit_glyph false (value % 16) ∷ []) quotient

-- the digits of the lowest bytes of a number are its lowest digits
pub digits_of_bytes : (n m value : ℕ) → m ≡ 2 * n → encode_lower (low_bytes n value) ≡ hex_text m value
unfolding low_bytes hex_text encode_with
digits_of_bytes zero zero value h = refl
digits_of_bytes zero (suc m) value h = absurd (omega arith)
digits_of_bytes (suc n) zero value h = absurd (omega arith)
digits_of_bytes (suc n) (suc zero) value h = absurd (omega arith)
digits_of_bytes (suc n) (suc (suc m)) value h =
    let high : slice_index lower_digits (value % 256 / 16) ≡ digit_glyph false (value / 16 % 16) =
    let e : value % 256 / 16 ≡ value / 16 % 16 = omega arith in
    ap (slice_index lower_digits) e ∙ glyph (value / 16 % 16) (omega arith) in
    let low : slice_index lower_digits (value % 256 % 16) ≡ digit_glyph false (value % 16) =
    let e : value % 256 % 16 ≡ value % 16 = omega arith in
    ap (slice_index lower_digits) e ∙ glyph (value % 16) (omega arith) in
    encode-last (low_bytes n (value / 256)) (value % 256)
    ∙ ap (λ t. t ++ slice_index lower_digits (value % 256 / 16) ∷ slice_index lower_digits (value % 256 % 16) ∷ []) (digits_of_bytes n m (value / 256) (omega arith))
    ∙ ap (λ c. hex_text m (value / 256) ++ c ∷ slice_index lower_digits (value % 256 % 16) ∷ []) high
    ∙ ap (λ c. hex_text m (value / 256) ++ digit_glyph false (value / 16 % 16) ∷ c ∷ []) low
    ∙ sym (two_more m value)

length-low_bytes : (n value : ℕ) → length (low_bytes n value) ≡ n
unfolding low_bytes
length-low_bytes zero value = refl
length-low_bytes (suc n) value = omega (arith, length-append (low_bytes n (value / 256)) (value % 256 ∷ []), length-low_bytes n (value / 256))

value_of : {P : Type 0} (r : Result (Unit {0}) FromHexError) → is_ok r ≡ true → OnOk r P → P
value_of (Ok u) ok h = h
value_of (Err e) ok h = absurd cc

-- what is written of the last bytes into room for so many digits
pub word_written : (w n m k value : ℕ) (all room written : List ℕ) (r : Result (Unit {0}) FromHexError) → w % 8 ≡ 0 → n ≡ w / 8 → m ≡ 2 * n → n ≤ k
    → drop (8 - n) all ≡ low_bytes n value → is_ok r ≡ true → OnOk r (written ≡ encode_lower (take k (drop (8 - n) all))) → refill m room written ≡ hex_text (w / 4) value
word_written w n m k value all room written r bytes count digits within low ok h =
    let last : take k (drop (8 - n) all) ≡ low_bytes n value = ap (take k) low ∙ take_all k (low_bytes n value) (omega (arith, length-low_bytes n value)) in
    let text : written ≡ hex_text m value = value_of r ok h ∙ ap encode_lower last ∙ digits_of_bytes n m value digits in
    let len : m ≡ length written = omega (arith, ap length text, length-hex_text m value) in
    let same : m ≡ w / 4 = omega arith in
    ap (λ x. take x (written ++ drop (length written) room)) len ∙ take-append_seam written (drop (length written) room) ∙ text ∙ ap (λ x. hex_text x value) same

-- ---- read

-- the bytes that pairs of digits write
abbrev bytes_of : List ℕ → List ℕ
bytes_of [] = []
bytes_of (high ∷ []) = []
bytes_of (high ∷ low ∷ rest) = (digit_value high * 16 + digit_value low) ∷ bytes_of rest

digit_read : (c : ℕ) → is_ascii_hexdigit c ≡ true → hex_digit_value c ≡ Some (digit_value c)
digit_read c h = grind (arith, nat_tests)

same_digits : (c : ℕ) → is_hex_digit c ≡ true → is_ascii_hexdigit c ≡ true
same_digits c h = grind (arith, nat_tests)

pair_read : (a b i : ℕ) → is_ascii_hexdigit a ≡ true → is_ascii_hexdigit b ≡ true → pair_value a b i ≡ Ok (digit_value a * 16 + digit_value b)
pair_read a b i ha hb = rw (digit_read a ha, digit_read b hb) refl

bytes_read : (i : ℕ) (digits : List ℕ) → length digits % 2 ≡ 0 → list_all is_ascii_hexdigit digits ≡ true → decode_pairs i digits ≡ Ok (bytes_of digits)
unfolding decode_pairs
bytes_read i [] even h = refl
bytes_read i (a ∷ []) even h = absurd (omega arith)
bytes_read i (a ∷ b ∷ rest) even h =
    let first = and_parts (is_ascii_hexdigit a) (list_all is_ascii_hexdigit (b ∷ rest)) h in
    let second = and_parts (is_ascii_hexdigit b) (list_all is_ascii_hexdigit rest) first.1 in
    decode_pairs-ok_pair i a b _ rest (pair_read a b i first.0 second.0)
    ∙ ap (cons_byte (digit_value a * 16 + digit_value b)) (bytes_read (i + 2) rest (omega arith) second.1)

-- the law of the join: so many digits write the number of their bytes
same_number : (n : ℕ) (digits : List ℕ) → length digits % 2 ≡ 0 → digits_value_after 16 n digits ≡ bytes_value_after n (bytes_of digits)
same_number n [] even = refl
same_number n (a ∷ []) even = absurd (omega arith)
same_number n (a ∷ b ∷ rest) even =
    let e : (n * 16 + digit_value a) * 16 + digit_value b ≡ n * 256 + (digit_value a * 16 + digit_value b) = omega arith in
    ap (λ k. digits_value_after 16 k rest) e ∙ same_number (n * 256 + (digit_value a * 16 + digit_value b)) rest (omega arith)

all_hex : (digits : List ℕ) → AllPass is_hex_digit digits → list_all is_ascii_hexdigit digits ≡ true
all_hex [] h = refl
all_hex (c ∷ cs) h =
    let first : is_ascii_hexdigit c ≡ true = same_digits c (All-head (λ c. is_hex_digit c ≡ true) c cs h) in
    rw first (all_hex cs (All-tail (λ c. is_hex_digit c ≡ true) c cs h))

-- the bytes of a word's digits
pub word_read : (w n : ℕ) (digits : List ℕ) → w % 8 ≡ 0 → n ≡ w / 8 → length digits ≡ w / 4 → list_all is_ascii_hexdigit digits ≡ true → decode_sized digits n ≡ Ok (bytes_of digits)
word_read w n digits bytes room len all =
    decode_sized-pairs digits n (omega arith) (omega arith) ∙ bytes_read 0 digits (omega arith) all

no_word : (w n : ℕ) (digits room : List ℕ) (r : Result (Unit {0}) FromHexError) → w % 8 ≡ 0 → n ≡ w / 8 → ((length digits == w / 4) && list_all is_ascii_hexdigit digits) ≡ false
    → (read : Result (List ℕ) FromHexError) → decode_sized digits n ≡ read → MatchResult read (λ bytes. (r ≡ Ok tt) × (room ≡ bytes)) (λ e. r ≡ Err e)
    → (e : FromHexError) × (r ≡ Err e)
no_word w n digits room r bytes count none (Ok found) is h =
    let there : IsOk (decode_sized digits n) = rw is refl in
    let form = (IsOk-decode_sized digits n).0 there in
    let len : (length digits == w / 4) ≡ true = eq-eqb (length digits) (w / 4) (omega (arith, form.0)) in
    let test : ((length digits == w / 4) && list_all is_ascii_hexdigit digits) ≡ true = rw len (all_hex digits form.1) in
    absurd cc
no_word w n digits room r bytes count none (Err e) is h = (e, h)

-- room for so many bytes
pub room_len : (n : ℕ) (room : List ℕ) → n ≤ length room → length (take n room) ≡ n
room_len n room h = omega (arith, length-take n room)

-- in room for the word's bytes the digits are read, or else these bytes are none
pub word_is : (w n : ℕ) (digits room : List ℕ) (r : Result (Unit {0}) FromHexError) → w % 8 ≡ 0 → n ≡ w / 8
    → MatchResult (decode_sized digits n) (λ bytes. (r ≡ Ok tt) × (room ≡ bytes)) (λ e. r ≡ Err e)
    → MatchResult r (λ _. hex_word_of w digits ≡ Some (bytes_value room)) (λ _. hex_word_of w digits ≡ None)
word_is w n digits room r bytes count h =
    elim ((length digits == w / 4) && list_all is_ascii_hexdigit digits) as (λ b. (length digits == w / 4) && list_all is_ascii_hexdigit digits ≡ b
    → MatchResult r (λ _. cond b (Some (digits_value 16 digits)) None ≡ Some (bytes_value room)) (λ _. cond b (Some (digits_value 16 digits)) None ≡ None)) [
      | true ↦ λ e.
          let parts = and_parts (length digits == w / 4) (list_all is_ascii_hexdigit digits) e in
          let len : length digits ≡ w / 4 = eqb-true (length digits) (w / 4) parts.0 in
          let read = rw (word_read w n digits bytes count len parts.1) at h in
          rw (read.0, read.1) (ap Some (same_number 0 digits (omega arith)))
      | false ↦ λ e. rw (no_word w n digits room r bytes count e (decode_sized digits n) refl h).1 refl
    ] refl

-- and the number that they write is a word
pub word_fits : (w : ℕ) (digits : List ℕ) (word : ℕ) → w % 8 ≡ 0 → Some word ≡ hex_word_of w digits → word < 2 ^ w
word_fits w digits word bytes h =
    elim ((length digits == w / 4) && list_all is_ascii_hexdigit digits) as (λ b. (length digits == w / 4) && list_all is_ascii_hexdigit digits ≡ b → Some word ≡ cond b (Some (digits_value 16 digits)) None → word < 2 ^ w) [
      | true ↦ λ e some.
          let parts = and_parts (length digits == w / 4) (list_all is_ascii_hexdigit digits) e in
          let len : length digits ≡ w / 4 = eqb-true (length digits) (w / 4) parts.0 in
          let below = digits_value-lt 16 digits (hex_digits digits parts.1) in
          let most : 16 ^ length digits ≡ 2 ^ w = ap (λ n. 16 ^ n) len ∙ sixteens w bytes in
          let value : word ≡ digits_value 16 digits = cc in
          omega arith
      | false ↦ λ e none. absurd cc
    ] refl h
