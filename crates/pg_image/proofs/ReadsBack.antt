-- A line of cells is read back as the row that it shows.
use Rattle.std.proofs.Common.{◌≡◌, ℕ, zero, suc, ◌+◌, ◌-◌, ◌/◌, ◌%◌, ◌^◌, ◌<◌, ◌≤◌, Bool, true, false, not, cond, List, [], ◌∷◌, ◌++◌, length, map, take, get_or, All, Some, None, Ok, Err, sym, ap, ◌∙◌, refl, lit<, arith, append_assoc, length-append}
use Rattle.std.specs.Prelude.{◌==◌, ◌&&◌, nat_lt, nat_le, slice_index, filter, position}
use Rattle.std.specs.List.{list_all, slice_split, prefix_len}
use Rattle.std.specs.Char.{is_ascii_digit, is_ascii_hexdigit}
use Rattle.std.specs.Fmt.{decimal, digit_glyph}
use Rattle.std.specs.Str.Parse.{digits_value}
use Rattle.std.proofs.lemmas.Bool.{and_from, and_parts, le-leb, le-ltb, eq-eqb}
use Rattle.std.proofs.lemmas.Bool.Decides.{nat_tests}
use Rattle.std.proofs.lemmas.Fmt.{decimal_by_steps, length-decimal-le, decimal_nonempty, decimal_is_IsNumeral}
use Rattle.std.proofs.lemmas.List.{append-nil, take_all, take-append-le, get_or_push, length-map}
use Rattle.std.proofs.lemmas.List.Sums.{AllPass-from_list_all}
use Rattle.std.proofs.lemmas.List.Splits.{slice_split_at, slice_split_none}
use Rattle.pg_text.specs.Printing.{hex_text}
use Rattle.pg_text.proofs.Hex.{length-hex_text, digits_value-hex_text, word_below}
use Rattle.pg_image.specs.declared.fault.ImageFault.TheVariants.{Token, Grammar}
use Rattle.pg_image.proofs.Cuts.{kept, keep_some}
use Rattle.pg_image.specs.Lines.{words_text, cells_text}
use Rattle.pg_image.specs.Images.{most_address_digits, Row, lines_of, content, is_gap, may_stand, foreign_place, parts_of, address_digits, is_address, is_word, is_row, row_of, with_line, in_front, rows_from, rows_due}

-- ---- bytes

list_all-append : (p : ℕ → Bool) (xs ys : List ℕ) → list_all p xs ≡ true → list_all p ys ≡ true → list_all p (xs ++ ys) ≡ true
list_all-append p [] ys hx hy = hy
list_all-append p (x ∷ xs) ys hx hy =
    let both = and_parts (p x) (list_all p xs) hx in
    and_from (p x) (list_all p (xs ++ ys)) both.0 (list_all-append p xs ys both.1 hy)

list_all-implied : (p q : ℕ → Bool) → ((c : ℕ) → p c ≡ true → q c ≡ true) → (xs : List ℕ) → list_all p xs ≡ true → list_all q xs ≡ true
list_all-implied p q imp [] h = refl
list_all-implied p q imp (x ∷ xs) h =
    let both = and_parts (p x) (list_all p xs) h in
    and_from (q x) (list_all q xs) (imp x both.0) (list_all-implied p q imp xs both.1)

glyph_is_hex : (d : ℕ) → d < 16 → is_ascii_hexdigit (digit_glyph false d) ≡ true
glyph_is_hex d h = grind (arith, nat_tests)

hex_is_hex : (n value : ℕ) → list_all is_ascii_hexdigit (hex_text n value) ≡ true
unfolding hex_text
hex_is_hex zero value = refl
hex_is_hex (suc n) value =
    list_all-append is_ascii_hexdigit (hex_text n (value / 16)) (digit_glyph false (value % 16) ∷ []) (hex_is_hex n (value / 16))
    (and_from (is_ascii_hexdigit (digit_glyph false (value % 16))) true (glyph_is_hex (value % 16) (omega arith)) refl)

digit_is : (d : ℕ) → d < 10 → is_ascii_digit (48 + d) ≡ true
digit_is d h = grind (arith, nat_tests)

decimal_is_digits : (n : ℕ) → n < 2 ^ 64 → list_all is_ascii_digit (decimal n) ≡ true
decimal_is_digits n h =
    decimal_by_steps (λ n ds. list_all is_ascii_digit ds ≡ true)
    (λ d lt. and_from (is_ascii_digit (48 + d)) true (digit_is d lt) refl)
    (λ n ds ten all. list_all-append is_ascii_digit ds ((48 + n % 10) ∷ []) all (and_from (is_ascii_digit (48 + n % 10)) true (digit_is (n % 10) (omega arith)) refl))
    n h

hex_stands : (c : ℕ) → is_ascii_hexdigit c ≡ true → may_stand c ≡ true
hex_stands c h = grind (arith, nat_tests)

digit_stands : (c : ℕ) → is_ascii_digit c ≡ true → may_stand c ≡ true
digit_stands c h = grind (arith, nat_tests)

hex_no_gap : (c : ℕ) → is_ascii_hexdigit c ≡ true → is_gap c ≡ false
hex_no_gap c h = grind (arith, nat_tests)

digit_no_gap : (c : ℕ) → is_ascii_digit c ≡ true → is_gap c ≡ false
digit_no_gap c h = grind (arith, nat_tests)

stands_no_lf : (c : ℕ) → may_stand c ≡ true → (c == 10) ≡ false
stands_no_lf c h = grind (arith, nat_tests)

stands_no_hash : (c : ℕ) → may_stand c ≡ true → (c == 35) ≡ false
stands_no_hash c h = grind (arith, nat_tests)

not_true : (b : Bool) → not b ≡ true → b ≡ false
not_true true h = sym h
not_true false h = refl

all_false : (p : ℕ → Bool) (xs : List ℕ) → list_all (λ c. not (p c)) xs ≡ true → All (λ c. p c ≡ false) xs
all_false p xs h = λ k d lt. not_true (p (get_or xs k d)) (AllPass-from_list_all (λ c. not (p c)) xs h k d lt)

hex_no_gaps : (n value : ℕ) → list_all (λ c. not (is_gap c)) (hex_text n value) ≡ true
hex_no_gaps n value = list_all-implied is_ascii_hexdigit (λ c. not (is_gap c)) (λ c h. ap not (hex_no_gap c h)) (hex_text n value) (hex_is_hex n value)

-- ---- parts

-- a part, a separator, and what stands behind it
kept_part : (p : ℕ → Bool) (xs : List ℕ) (y : ℕ) (ys : List ℕ) → 0 < length xs → All (λ c. p c ≡ false) xs → p y ≡ true → kept p (xs ++ y ∷ ys) ≡ xs ∷ kept p ys
kept_part p xs y ys some none gap =
    ap (filter (λ part. nat_lt 0 (length part))) (slice_split_at p xs y ys none gap) ∙ keep_some xs (slice_split p ys) some

kept_one : (p : ℕ → Bool) (xs : List ℕ) → 0 < length xs → All (λ c. p c ≡ false) xs → kept p xs ≡ xs ∷ []
kept_one p xs some none = ap (filter (λ part. nat_lt 0 (length part))) (slice_split_none p xs none) ∙ keep_some xs [] some

parts_of_words : (w : ℕ) (front : List ℕ) (words : List ℕ) → 4 ≤ w → 0 < length front → list_all (λ c. not (is_gap c)) front ≡ true
    → parts_of (front ++ words_text w words) ≡ front ∷ map (hex_text (w / 4)) words
unfolding parts_of words_text
parts_of_words w front [] wide some none = ap (kept is_gap) (append-nil front) ∙ kept_one is_gap front some (all_false is_gap front none)
parts_of_words w front (word ∷ words) wide some none =
    let hex : List ℕ = hex_text (w / 4) word in
    let long : 0 < length hex = omega (arith, length-hex_text (w / 4) word) in
    kept_part is_gap front 32 (hex ++ words_text w words) some (all_false is_gap front none) refl
    ∙ ap (λ parts. front ∷ parts) (parts_of_words w hex words wide long (hex_no_gaps (w / 4) word))

-- ---- the address

abbrev address : ℕ → List ℕ
address first = decimal first ++ 58 ∷ []

address_digits-address : (first : ℕ) → address_digits (address first) ≡ decimal first
address_digits-address first =
    let d : List ℕ = decimal first in
    let len : length (d ++ 58 ∷ []) - 1 ≡ length d = omega (arith, length-append d (58 ∷ [])) in
    ap (λ n. take n (d ++ 58 ∷ [])) len ∙ take-append-le (length d) d (58 ∷ []) (omega arith) ∙ take_all (length d) d (omega arith)

address_reads : (first : ℕ) → first < 10 ^ 7 → is_address (address first) ≡ true
unfolding is_address
address_reads first small =
    let d : List ℕ = decimal first in
    let fits : first < 2 ^ 64 = omega arith in
    let e : address_digits (d ++ 58 ∷ []) ≡ d = address_digits-address first in
    let end : length d ≡ length (d ++ 58 ∷ []) - 1 = omega (arith, length-append d (58 ∷ [])) in
    let colon : slice_index (d ++ 58 ∷ []) (length (d ++ 58 ∷ []) - 1) ≡ 58 = get_or_push d 58 0 (length (d ++ 58 ∷ []) - 1) end in
    and_from (((slice_index (d ++ 58 ∷ []) (length (d ++ 58 ∷ []) - 1) == 58) && nat_le 1 (length (address_digits (d ++ 58 ∷ [])))) && nat_le (length (address_digits (d ++ 58 ∷ []))) most_address_digits)
    (list_all is_ascii_digit (address_digits (d ++ 58 ∷ [])))
    (and_from ((slice_index (d ++ 58 ∷ []) (length (d ++ 58 ∷ []) - 1) == 58) && nat_le 1 (length (address_digits (d ++ 58 ∷ [])))) (nat_le (length (address_digits (d ++ 58 ∷ []))) most_address_digits)
    (and_from (slice_index (d ++ 58 ∷ []) (length (d ++ 58 ∷ []) - 1) == 58) (nat_le 1 (length (address_digits (d ++ 58 ∷ []))))
    (eq-eqb (slice_index (d ++ 58 ∷ []) (length (d ++ 58 ∷ []) - 1)) 58 colon)
    (ap (λ ds. nat_le 1 (length ds)) e ∙ le-leb 1 (length d) (decimal_nonempty first fits)))
    (ap (λ ds. nat_le (length ds) most_address_digits) e ∙ le-leb (length d) most_address_digits (length-decimal-le 7 first (lit< tt) small fits)))
    (ap (list_all is_ascii_digit) e ∙ decimal_is_digits first fits)

address_no_gaps : (first : ℕ) → first < 2 ^ 64 → list_all (λ c. not (is_gap c)) (address first) ≡ true
address_no_gaps first fits =
    list_all-append (λ c. not (is_gap c)) (decimal first) (58 ∷ [])
    (list_all-implied is_ascii_digit (λ c. not (is_gap c)) (λ c h. ap not (digit_no_gap c h)) (decimal first) (decimal_is_digits first fits)) refl

-- ---- the words

all_tail : (w word : ℕ) (words : List ℕ) → All (λ word. word < 2 ^ w) (word ∷ words) → All (λ word. word < 2 ^ w) words
all_tail w word words all = λ k d lt. all (suc k) d (omega arith)

words_read : (w : ℕ) (words : List ℕ) → list_all (is_word w) (map (hex_text (w / 4)) words) ≡ true
unfolding is_word
words_read w [] = refl
words_read w (word ∷ words) =
    and_from (is_word w (hex_text (w / 4) word)) (list_all (is_word w) (map (hex_text (w / 4)) words))
    (and_from (length (hex_text (w / 4) word) == w / 4) (list_all is_ascii_hexdigit (hex_text (w / 4) word))
    (eq-eqb (length (hex_text (w / 4) word)) (w / 4) (length-hex_text (w / 4) word)) (hex_is_hex (w / 4) word))
    (words_read w words)

values_read : (w : ℕ) (words : List ℕ) → w % 8 ≡ 0 → All (λ word. word < 2 ^ w) words → map (digits_value 16) (map (hex_text (w / 4)) words) ≡ words
values_read w [] bytes all = refl
values_read w (word ∷ words) bytes all =
    let here : digits_value 16 (hex_text (w / 4) word) ≡ word = digits_value-hex_text (w / 4) word (word_below w word bytes (all 0 0 (omega arith))) in
    ap (λ v. v ∷ map (digits_value 16) (map (hex_text (w / 4)) words)) here
    ∙ ap (λ vs. word ∷ vs) (values_read w words bytes (all_tail w word words all))

-- ---- the text

prefix_len_all : (q : ℕ → Bool) (xs : List ℕ) → list_all q xs ≡ true → prefix_len q xs ≡ length xs
prefix_len_all q [] h = refl
prefix_len_all q (x ∷ xs) h =
    let both = and_parts (q x) (list_all q xs) h in
    let rest : 1 + prefix_len q xs ≡ length (x ∷ xs) = omega (arith, prefix_len_all q xs both.1) in
    ap (λ b. cond b (1 + prefix_len q xs) 0) both.0 ∙ rest

none_foreign : (xs : List ℕ) → list_all may_stand xs ≡ true → position (λ c. not (may_stand c)) xs ≡ None
none_foreign xs h =
    let e : prefix_len (λ c. not (not (may_stand c))) xs ≡ length xs =
    prefix_len_all (λ c. not (not (may_stand c))) xs (list_all-implied may_stand (λ c. not (not (may_stand c))) (λ c stands. ap (λ b. not (not b)) stands) xs h) in
    ap (λ n. cond (nat_lt n (length xs)) (Some n) None) e
    ∙ ap (λ b. cond b (Some (length xs)) None) (le-ltb (length xs) (length xs) (omega arith))

content_whole : (xs : List ℕ) → list_all may_stand xs ≡ true → content xs ≡ xs
content_whole xs h =
    let e : prefix_len (λ c. not (c == 35)) xs ≡ length xs =
    prefix_len_all (λ c. not (c == 35)) xs (list_all-implied may_stand (λ c. not (c == 35)) (λ c stands. ap not (stands_no_hash c stands)) xs h) in
    take_all (prefix_len (λ c. not (c == 35)) xs) xs (omega arith)

lines_are : (xs : List ℕ) → list_all may_stand xs ≡ true → lines_of (xs ++ 10 ∷ []) ≡ xs ∷ [] ∷ []
unfolding lines_of
lines_are xs h =
    slice_split_at (λ c. c == 10) xs 10 [] (all_false (λ c. c == 10) xs (list_all-implied may_stand (λ c. not (c == 10)) (λ c stands. ap not (stands_no_lf c stands)) xs h)) refl

nothing_foreign : (xs : List ℕ) → list_all may_stand xs ≡ true → foreign_place 0 (xs ∷ [] ∷ []) ≡ None
unfolding foreign_place
nothing_foreign xs h =
    ap (λ found. elim found [ Some k ↦ Some (0 + k) | None ↦ foreign_place (0 + length xs + 1) ([] ∷ []) ])
    (ap (position (λ c. not (may_stand c))) (content_whole xs h) ∙ none_foreign xs h)

words_stand : (w : ℕ) (words : List ℕ) → list_all may_stand (words_text w words) ≡ true
unfolding words_text
words_stand w [] = refl
words_stand w (word ∷ words) =
    and_from (may_stand 32) (list_all may_stand (hex_text (w / 4) word ++ words_text w words)) refl
    (list_all-append may_stand (hex_text (w / 4) word) (words_text w words)
    (list_all-implied is_ascii_hexdigit may_stand hex_stands (hex_text (w / 4) word) (hex_is_hex (w / 4) word)) (words_stand w words))

-- a line of cells, without its LF
abbrev line : (w first : ℕ) → List ℕ → List ℕ
line w first words = decimal first ++ 58 ∷ words_text w words

line_stands : (w first : ℕ) (words : List ℕ) → first < 2 ^ 64 → list_all may_stand (line w first words) ≡ true
line_stands w first words fits =
    list_all-append may_stand (decimal first) (58 ∷ words_text w words)
    (list_all-implied is_ascii_digit may_stand digit_stands (decimal first) (decimal_is_digits first fits))
    (and_from (may_stand 58) (list_all may_stand (words_text w words)) refl (words_stand w words))

parts_of_line : (w first : ℕ) (words : List ℕ) → 4 ≤ w → first < 2 ^ 64 → parts_of (line w first words) ≡ address first ∷ map (hex_text (w / 4)) words
parts_of_line w first words wide fits =
    ap parts_of (sym (append_assoc (decimal first) (58 ∷ []) (words_text w words)))
    ∙ parts_of_words w (address first) words wide (omega (arith, length-append (decimal first) (58 ∷ []))) (address_no_gaps first fits)

blank : parts_of (content []) ≡ []
unfolding parts_of
blank = refl

makes_row : (w first : ℕ) (words : List ℕ) → first < 10 ^ 7 → 1 ≤ length words → is_row w (address first ∷ map (hex_text (w / 4)) words) ≡ true
makes_row w first words small some =
    let rest : List (List ℕ) = map (hex_text (w / 4)) words in
    let long : 1 ≤ length rest = omega (arith, length-map words (hex_text (w / 4))) in
    and_from (is_address (address first) && nat_le 1 (length rest)) (list_all (is_word w) rest)
    (and_from (is_address (address first)) (nat_le 1 (length rest)) (address_reads first small) (le-leb 1 (length rest) long))
    (words_read w words)

-- a row of line 1
abbrev pub row_from : ℕ → List ℕ → Row
row_from first words = record { line = 1; first = first; words = words }

same_row : (first first' : ℕ) (words words' : List ℕ) → first ≡ first' → words ≡ words' → row_from first words ≡ row_from first' words'
same_row first first' words words' e f = ap (λ n. row_from n words) e ∙ ap (row_from first') f

rows_read : (w first : ℕ) (words : List ℕ) → w % 8 ≡ 0 → 4 ≤ w → first < 10 ^ 7 → 1 ≤ length words → All (λ word. word < 2 ^ w) words
    → rows_from w 1 (line w first words ∷ [] ∷ []) ≡ Ok (row_from first words ∷ [])
unfolding rows_from
rows_read w first words bytes wide small some all =
    let fits : first < 2 ^ 64 = omega arith in
    let rest : List (List ℕ) = map (hex_text (w / 4)) words in
    let value : digits_value 10 (address_digits (address first)) ≡ first = ap (digits_value 10) (address_digits-address first) ∙ (decimal_is_IsNumeral first fits).1 in
    ap (λ parts. with_line w 1 parts (with_line w 2 (parts_of (content [])) (Ok [])))
    (ap parts_of (content_whole (line w first words) (line_stands w first words fits)) ∙ parts_of_line w first words wide fits)
    ∙ ap (λ parts. with_line w 1 (address first ∷ rest) (with_line w 2 parts (Ok []))) blank
    ∙ ap (λ b. cond b (in_front (row_of 1 (address first) rest) (Ok [])) (Err (Grammar 1))) (makes_row w first words small some)
    ∙ ap (λ row. Ok (row ∷ [])) (same_row (digits_value 10 (address_digits (address first))) first (map (digits_value 16) rest) words value (values_read w words bytes all))

-- the whole line, read as a text
pub rows_due-cells_text : (w first : ℕ) (words : List ℕ) → w % 8 ≡ 0 → 16 ≤ w → first < 10 ^ 7 → 1 ≤ length words → All (λ word. word < 2 ^ w) words
    → rows_due w (cells_text w first words) ≡ Ok (row_from first words ∷ [])
unfolding cells_text
rows_due-cells_text w first words bytes wide small some all =
    let xs : List ℕ = line w first words in
    let stands : list_all may_stand xs ≡ true = line_stands w first words (omega arith) in
    ap (λ lines. elim (foreign_place 0 lines) [ Some place ↦ Err (Token place) | None ↦ rows_from w 1 lines ]) (lines_are xs stands)
    ∙ ap (λ found. elim found [ Some place ↦ Err (Token place) | None ↦ rows_from w 1 (xs ∷ [] ∷ []) ]) (nothing_foreign xs stands)
    ∙ rows_read w first words bytes (omega arith) small some all
