-- Numbers, literals and words are read as they are spelled, and no space stands in them.
use Rattle.std.proofs.Common.{◌≡◌, ℕ, zero, suc, ◌+◌, ◌/◌, ◌%◌, ◌^◌, ◌<◌, ◌≤◌, Bool, true, false, cond, ℤ, pos, negsuc, List, [], ◌∷◌, ◌++◌, length, map, Some, None, Option, sym, ap, ◌∙◌, refl, arith}
use Rattle.std.specs.Prelude.{◌==◌, ◌&&◌, nat_lt, nat_le, nat_abs}
use Rattle.std.specs.List.{list_all}
use Rattle.std.specs.Char.{is_ascii_hexdigit}
use Rattle.std.specs.Fmt.{decimal, signed_decimal, digit_glyph}
use Rattle.std.specs.Str.Parse.{digits_value}
use Rattle.std.proofs.lemmas.Bool.{and_from, and_parts, leb-true, ltb-true, le-leb, eq-eqb}
use Rattle.std.proofs.lemmas.Bool.Decides.{nat_tests}
use Rattle.std.proofs.lemmas.Fmt.{decimal_digit, decimal_by_steps, decimal_nonempty, decimal_is_IsNumeral}
use Rattle.pg_lang_token.specs.Words.{is_digit}
use Rattle.pg_text.specs.Cutting.{dec_number}
use Rattle.pg_text.specs.Printing.{hex_text, hex_word_of}
use Rattle.pg_text.proofs.Digits.{limited_is}
use Rattle.pg_text.proofs.Hex.{length-hex_text, digits_value-hex_text, word_below}
use Rattle.pg_cert.specs.Lines.{most_variable, most_number, ascend}
use Rattle.pg_cert.specs.Reading.{then_read, read_number, negative, read_lit, read_lits, read_numbers, read_words, is_zero}

pub list_all-append : {X : Type 0} (p : X → Bool) (xs ys : List X) → list_all p xs ≡ true → list_all p ys ≡ true → list_all p (xs ++ ys) ≡ true
list_all-append p [] ys hx hy = hy
list_all-append p (x ∷ xs) ys hx hy =
    let both = and_parts (p x) (list_all p xs) hx in
    and_from (p x) (list_all p (xs ++ ys)) both.0 (list_all-append p xs ys both.1 hy)

pub list_all-implied : (p q : ℕ → Bool) → ((c : ℕ) → p c ≡ true → q c ≡ true) → (xs : List ℕ) → list_all p xs ≡ true → list_all q xs ≡ true
list_all-implied p q imp [] h = refl
list_all-implied p q imp (x ∷ xs) h =
    let both = and_parts (p x) (list_all p xs) h in
    and_from (q x) (list_all q xs) (imp x both.0) (list_all-implied p q imp xs both.1)

-- ---- decimal digits

digit_is : (d : ℕ) → d < 10 → is_digit (48 + d) ≡ true
digit_is d h = grind (arith, nat_tests)

pub decimal_is_digits : (n : ℕ) → n < 2 ^ 64 → list_all is_digit (decimal n) ≡ true
decimal_is_digits n h =
    decimal_by_steps (λ n ds. list_all is_digit ds ≡ true)
    (λ d lt. and_from (is_digit (48 + d)) true (digit_is d lt) refl)
    (λ n ds ten all. list_all-append is_digit ds ((48 + n % 10) ∷ []) all (and_from (is_digit (48 + n % 10)) true (digit_is (n % 10) (omega arith)) refl))
    n h

pub dec_number-decimal : (n : ℕ) → n < 2 ^ 64 → dec_number (decimal n) ≡ Some n
dec_number-decimal n h =
    let some : nat_le 1 (length (decimal n)) ≡ true = le-leb 1 (length (decimal n)) (decimal_nonempty n h) in
    let test : (nat_le 1 (length (decimal n)) && list_all is_digit (decimal n)) ≡ true = and_from (nat_le 1 (length (decimal n))) (list_all is_digit (decimal n)) some (decimal_is_digits n h) in
    let value : digits_value 10 (decimal n) ≡ n = (decimal_is_IsNumeral n h).1 in
    let limited : ℕ → Option ℕ = λ v. cond (nat_lt v (2 ^ 64)) (Some v) None in
    ap (λ b. cond b (limited (digits_value 10 (decimal n))) None) test ∙ ap limited value ∙ limited_is n h

pub read_number-decimal : (most n : ℕ) → n ≤ most → n < 2 ^ 64 → read_number most (decimal n) ≡ Some n
unfolding read_number
read_number-decimal most n l h =
    let within : ℕ → Option ℕ = λ v. cond (nat_le v most) (Some v) None in
    ap (λ o. then_read o within) (dec_number-decimal n h) ∙ ap (λ b. cond b (Some n) None) (le-leb n most l)

-- what ends a list
zero_number : (most : ℕ) → read_number most (48 ∷ []) ≡ Some 0
zero_number most =
    let spelled : decimal 0 ≡ 48 ∷ [] = decimal_digit 0 (omega arith) in
    ap (read_number most) (sym spelled) ∙ read_number-decimal most 0 (omega arith) (omega arith)

-- ---- literals

no_sign : (c : ℕ) → is_digit c ≡ true → (c == 45) ≡ false
no_sign c h = grind (arith, nat_tests)

read_lit-digits : (ds : List ℕ) → 0 < length ds → list_all is_digit ds ≡ true → read_lit ds ≡ then_read (read_number most_variable ds) (λ n. Some (pos n))
unfolding read_lit
read_lit-digits [] l h = absurd (omega arith)
read_lit-digits (c ∷ cs) l h =
    ap (λ b. cond b (then_read (read_number most_variable cs) (λ n. Some (negative n))) (then_read (read_number most_variable (c ∷ cs)) (λ n. Some (pos n)))) (no_sign c (and_parts (is_digit c) (list_all is_digit cs) h).0)

pub read_lit-signed : (z : ℤ) → nat_abs z ≤ most_variable → read_lit (signed_decimal z) ≡ Some z
unfolding read_lit
read_lit-signed (pos n) l =
    let fits : n < 2 ^ 64 = omega arith in
    read_lit-digits (decimal n) (decimal_nonempty n fits) (decimal_is_digits n fits) ∙ ap (λ o. then_read o (λ n. Some (pos n))) (read_number-decimal most_variable n l fits)
read_lit-signed (negsuc n) l =
    let fits : suc n < 2 ^ 64 = omega arith in
    ap (λ o. then_read o (λ n. Some (negative n))) (read_number-decimal most_variable (suc n) l fits)

zero_lit : read_lit (48 ∷ []) ≡ Some (pos 0)
zero_lit =
    let spelled : signed_decimal (pos 0) ≡ 48 ∷ [] = decimal_digit 0 (omega arith) in
    ap read_lit (sym spelled) ∙ read_lit-signed (pos 0) (omega arith)

not_zero : (z : ℤ) → 0 < nat_abs z → is_zero z ≡ false
not_zero (pos n) l = grind (arith, nat_tests)
not_zero (negsuc n) l = refl

-- literals above a least one, behind which 0 stands
pub read_lits-signed : (above : ℕ) (zs : List ℤ) (rest : List (List ℕ)) → ascend most_variable above (map nat_abs zs) ≡ true → read_lits (map signed_decimal zs ++ (48 ∷ []) ∷ rest) ≡ Some (zs, rest)
unfolding read_lits
read_lits-signed above [] rest h =
    let go : ℤ → Option (List ℤ × List (List ℕ)) = λ z. cond (is_zero z) (Some ([], rest)) (then_read (read_lits rest) (λ r. Some (z ∷ r.0, r.1))) in
    ap (λ o. then_read o go) zero_lit
read_lits-signed above (z ∷ zs) rest h =
    let first = and_parts (nat_lt above (nat_abs z)) (nat_le (nat_abs z) most_variable && ascend most_variable (nat_abs z) (map nat_abs zs)) h in
    let second = and_parts (nat_le (nat_abs z) most_variable) (ascend most_variable (nat_abs z) (map nat_abs zs)) first.1 in
    let lower : above < nat_abs z = ltb-true above (nat_abs z) first.0 in
    let upper : nat_abs z ≤ most_variable = leb-true (nat_abs z) most_variable second.0 in
    let tail : List (List ℕ) = map signed_decimal zs ++ (48 ∷ []) ∷ rest in
    let go : ℤ → Option (List ℤ × List (List ℕ)) = λ z. cond (is_zero z) (Some ([], tail)) (then_read (read_lits tail) (λ r. Some (z ∷ r.0, r.1))) in
    ap (λ o. then_read o go) (read_lit-signed z upper)
    ∙ ap (λ b. cond b (Some ([], tail)) (then_read (read_lits tail) (λ r. Some (z ∷ r.0, r.1)))) (not_zero z (omega arith))
    ∙ ap (λ o. then_read o (λ (r : List ℤ × List (List ℕ)). Some (z ∷ r.0, r.1))) (read_lits-signed (nat_abs z) zs rest second.1)

-- ---- numbers

positive_is : (n : ℕ) → 1 ≤ n → (n == 0) ≡ false
positive_is n h = grind (arith, nat_tests)

pub read_numbers-decimal : (ns : List ℕ) → list_all (λ n. nat_le 1 n && nat_le n most_number) ns ≡ true → read_numbers (map decimal ns ++ (48 ∷ []) ∷ []) ≡ Some ns
unfolding read_numbers
read_numbers-decimal [] h =
    let go : ℕ → Option (List ℕ) = λ n. cond (n == 0) (Some []) (then_read (read_numbers []) (λ ns. Some (n ∷ ns))) in
    ap (λ o. then_read o go) (zero_number most_number)
read_numbers-decimal (n ∷ ns) h =
    let both = and_parts (nat_le 1 n && nat_le n most_number) (list_all (λ n. nat_le 1 n && nat_le n most_number) ns) h in
    let range = and_parts (nat_le 1 n) (nat_le n most_number) both.0 in
    let lower : 1 ≤ n = leb-true 1 n range.0 in
    let upper : n ≤ most_number = leb-true n most_number range.1 in
    let tail : List (List ℕ) = map decimal ns ++ (48 ∷ []) ∷ [] in
    let stop : Option (List ℕ) = cond (length tail == 0) (Some []) None in
    let go : ℕ → Option (List ℕ) = λ n. cond (n == 0) stop (then_read (read_numbers tail) (λ ns. Some (n ∷ ns))) in
    ap (λ o. then_read o go) (read_number-decimal most_number n upper (omega arith))
    ∙ ap (λ b. cond b stop (then_read (read_numbers tail) (λ ns. Some (n ∷ ns)))) (positive_is n lower)
    ∙ ap (λ o. then_read o (λ (ns : List ℕ). Some (n ∷ ns))) (read_numbers-decimal ns both.1)

-- numbers that ascend are numbers from 1 on
pub ascend-numbers : (above : ℕ) (ns : List ℕ) → ascend most_number above ns ≡ true → list_all (λ n. nat_le 1 n && nat_le n most_number) ns ≡ true
ascend-numbers above [] h = refl
ascend-numbers above (n ∷ ns) h =
    let first = and_parts (nat_lt above n) (nat_le n most_number && ascend most_number n ns) h in
    let second = and_parts (nat_le n most_number) (ascend most_number n ns) first.1 in
    let lower : above < n = ltb-true above n first.0 in
    and_from (nat_le 1 n && nat_le n most_number) (list_all (λ n. nat_le 1 n && nat_le n most_number) ns) (and_from (nat_le 1 n) (nat_le n most_number) (le-leb 1 n (omega arith)) second.0) (ascend-numbers n ns second.1)

-- ---- words

glyph_is_hex : (d : ℕ) → d < 16 → is_ascii_hexdigit (digit_glyph false d) ≡ true
glyph_is_hex d h = grind (arith, nat_tests)

pub hex_is_hex : (n value : ℕ) → list_all is_ascii_hexdigit (hex_text n value) ≡ true
unfolding hex_text
hex_is_hex zero value = refl
hex_is_hex (suc n) value =
    list_all-append is_ascii_hexdigit (hex_text n (value / 16)) (digit_glyph false (value % 16) ∷ []) (hex_is_hex n (value / 16))
    (and_from (is_ascii_hexdigit (digit_glyph false (value % 16))) true (glyph_is_hex (value % 16) (omega arith)) refl)

pub hex_word_of-hex_text : (w x : ℕ) → w % 8 ≡ 0 → x < 2 ^ w → hex_word_of w (hex_text (w / 4) x) ≡ Some x
hex_word_of-hex_text w x bytes l =
    let t : List ℕ = hex_text (w / 4) x in
    let test : ((length t == w / 4) && list_all is_ascii_hexdigit t) ≡ true = and_from (length t == w / 4) (list_all is_ascii_hexdigit t) (eq-eqb (length t) (w / 4) (length-hex_text (w / 4) x)) (hex_is_hex (w / 4) x) in
    ap (λ b. cond b (Some (digits_value 16 t)) None) test ∙ ap (λ v. Some v) (digits_value-hex_text (w / 4) x (word_below w x bytes l))

pub read_words-hex : (w : ℕ) (xs : List ℕ) → w % 8 ≡ 0 → list_all (λ x. nat_lt x (2 ^ w)) xs ≡ true → read_words w (map (hex_text (w / 4)) xs) ≡ Some xs
unfolding read_words
read_words-hex w [] bytes h = refl
read_words-hex w (x ∷ xs) bytes h =
    let both = and_parts (nat_lt x (2 ^ w)) (list_all (λ x. nat_lt x (2 ^ w)) xs) h in
    ap (λ o. then_read o (λ x. then_read (read_words w (map (hex_text (w / 4)) xs)) (λ xs. Some (x ∷ xs)))) (hex_word_of-hex_text w x bytes (ltb-true x (2 ^ w) both.0))
    ∙ ap (λ o. then_read o (λ (xs : List ℕ). Some (x ∷ xs))) (read_words-hex w xs bytes both.1)
