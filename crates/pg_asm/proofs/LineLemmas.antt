-- What parts of lines say.
use Rattle.std.proofs.Common.{◌≡◌, ℕ, ◌+◌, ◌^◌, ◌<◌, ◌≤◌, Bool, true, false, not, ◌&&◌, if◌then◌else◌, List, [], ◌∷◌, length, drop, Option, None, Some, refl, ap, sym, ◌∙◌, lit<, arith, IsAscii}
use Rattle.std.specs.Prelude.{IsTrue, IsUtf8, nat_lt, nat_le, is_some, slice_index}
use Rattle.std.specs.Option.{option_map}
use Rattle.std.specs.List.{list_all}
use Rattle.std.specs.Str.Parse.{digits_value}
use Rattle.std.proofs.Math.Nat.{pow-le-pow_right}
use Rattle.std.proofs.lemmas.Bool.{and_parts}
use Rattle.std.proofs.lemmas.Bool.Decides.{nat_tests}
use Rattle.std.proofs.lemmas.Int.Digits.{digits_value-lt}
use Rattle.std.proofs.lemmas.Str.{IsUtf8-from_ascii}
use Rattle.std.proofs.lemmas.Str.Ascii.{IsAscii-nil, IsAscii-cons}
use Rattle.pg_lang_token.specs.Words.{is_digit, is_word_byte, is_letter, is_word, is_name, is_reserved, most_name_bytes}
use Rattle.pg_text.specs.Cutting.{limited, dec_number}
use Rattle.pg_text.proofs.Digits.{dec_digits}
use Rattle.pg_asm.specs.Said.{Value, Operand, value_said, begins_operand, operand_said, in_front, operands_said}

-- ---- digits

limited_value : (v n : ℕ) → Some n ≡ limited v → n ≡ v
limited_value v n h = by (nat_lt v (2 ^ 64)) h
  where
    by : (b : Bool) → Some n ≡ (if b then Some v else None) → n ≡ v
    by true e = cc e
    by false e = cc e

-- the number of few digits
pub place-few : (digits : List ℕ) (n : ℕ) → length digits ≤ 7 → Some n ≡ dec_number digits → n < 10 ^ 7
place-few digits n few h = by (nat_le 1 (length digits)) (list_all is_digit digits) refl h
  where
    by : (a b : Bool) → list_all is_digit digits ≡ b → Some n ≡ (if a && b then limited (digits_value 10 digits) else None) → n < 10 ^ 7
    by true true all e =
        let below = digits_value-lt 10 digits (dec_digits digits all) in
        let most : 10 ^ length digits ≤ 10 ^ 7 = pow-le-pow_right (lit< tt) few in
        omega (arith, limited_value (digits_value 10 digits) n e)
    by true false all e = cc e
    by false b all e = cc e

-- ---- names are text

word_ascii : (c : ℕ) → is_word_byte c ≡ true → c < 128
word_ascii c h = grind (arith, nat_tests)

letter_ascii : (c : ℕ) → is_letter c ≡ true → c < 128
letter_ascii c h = grind (arith, nat_tests)

words_ascii : (cs : List ℕ) → list_all is_word_byte cs ≡ true → IsAscii cs
words_ascii [] h = IsAscii-nil
words_ascii (c ∷ cs) h =
    let both = and_parts (is_word_byte c) (list_all is_word_byte cs) h in
    IsAscii-cons c cs (word_ascii c both.0) (words_ascii cs both.1)

word_text : (cs : List ℕ) → is_word cs ≡ true → IsUtf8 cs
word_text [] h = cc h
word_text (c ∷ cs) h =
    let few = and_parts (is_letter c && list_all is_word_byte cs) (nat_le (length (c ∷ cs)) most_name_bytes) h in
    let both = and_parts (is_letter c) (list_all is_word_byte cs) few.0 in
    IsUtf8-from_ascii (c ∷ cs) (IsAscii-cons c cs (letter_ascii c both.0) (words_ascii cs both.1))

pub name-utf8 : (cs : List ℕ) → IsTrue (is_name cs) → IsUtf8 cs
name-utf8 cs h = word_text cs (and_parts (is_word cs) (not (is_reserved cs)) h).0

-- ---- operands

mapped : {X Y : Type 0} (f : X → Y) (o : Option X) → is_some (option_map f o) ≡ is_some o
mapped f None = refl
mapped f (Some x) = refl

-- a part that begins as an operand is one where what is behind is a value
pub operand-some : (part text : List ℕ) → begins_operand part ≡ true → text ≡ drop 2 part → is_some (value_said text) ≡ is_some (operand_said part)
operand-some part text b behind =
    ap (λ t. is_some (value_said t)) behind
    ∙ sym (mapped (λ (v : Value). let o : Operand = record { letter = slice_index part 0; value = v } in o) (value_said (drop 2 part)))
    ∙ sym (ap (λ x. is_some (if x then option_map (λ (v : Value). let o : Operand = record { letter = slice_index part 0; value = v } in o) (value_said (drop 2 part)) else None)) b)

pub operand-none : (part : List ℕ) → begins_operand part ≡ false → false ≡ is_some (operand_said part)
operand-none part b =
    sym (ap (λ x. is_some (if x then option_map (λ (v : Value). let o : Operand = record { letter = slice_index part 0; value = v } in o) (value_said (drop 2 part)) else None)) b)

some-behind : (x : Option Operand) (xs : Option (List Operand)) → true ≡ is_some x → is_some xs ≡ is_some (in_front x xs)
some-behind None xs h = cc h
some-behind (Some x) None h = refl
some-behind (Some x) (Some xs) h = refl

pub operands-more : (left rest : List (List ℕ)) (part : List ℕ) (whole : Bool) → left ≡ part ∷ rest → true ≡ is_some (operand_said part) →
    is_some (operands_said left) ≡ whole → is_some (operands_said rest) ≡ whole
unfolding operands_said
operands-more left rest part whole cut some so_far =
    some-behind (operand_said part) (operands_said rest) some ∙ sym (ap (λ ps. is_some (operands_said ps)) cut) ∙ so_far
