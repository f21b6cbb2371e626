-- The parts of a line are read as the line, and are those between the spaces of its text: so a text is that of one line.
use Rattle.std.proofs.Common.{◌≡◌, ℕ, suc, ◌-◌, ◌/◌, ◌%◌, ◌^◌, ◌<◌, ◌≤◌, Bool, true, false, not, ℤ, pos, negsuc, List, [], ◌∷◌, ◌++◌, length, map, take, get_or, All, Some, None, Option, sym, ap, ◌∙◌, refl, lit<, arith, append_assoc, length-append}
use Rattle.std.specs.Prelude.{◌==◌, ◌&&◌, nat_lt, nat_le, nat_abs, slice_index, codes}
use Rattle.std.specs.List.{list_any, list_all, slice_split, join_with_byte}
use Rattle.std.specs.Char.{is_ascii_hexdigit}
use Rattle.std.specs.Fmt.{decimal, signed_decimal}
use Rattle.std.proofs.Math.Nat.{pow-le-pow_right}
use Rattle.std.proofs.lemmas.Bool.{and_from, and_parts, leb-true, ltb-true, eq-eqb}
use Rattle.std.proofs.lemmas.Bool.Decides.{nat_tests}
use Rattle.std.proofs.lemmas.List.{take_all, take-append-le, get_or_push}
use Rattle.std.proofs.lemmas.List.Sums.{AllPass-from_list_all}
use Rattle.std.proofs.lemmas.List.Splits.{slice_split_at, slice_split_none}
use Rattle.pg_word.specs.declared.shape.Shape.{Shape}
use Rattle.pg_word.specs.declared.psw.Psw.{Psw as Psws}
use Rattle.pg_word.specs.declared.psw.Mode.{Mode}
use Rattle.pg_word.specs.declared.psw.Mode.TheVariants.{S, U}
use Rattle.pg_word.specs.Shape.{IsShape}
use Rattle.pg_lang_token.specs.Words.{is_word, is_letter, is_word_byte, is_digit, most_name_bytes}
use Rattle.pg_text.specs.Printing.{hex_text}
use Rattle.pg_image.specs.Lines.{mode_text, line_cells}
use Rattle.pg_type.specs.declared.kind.Kind.{Kind}
use Rattle.pg_type.specs.declared.kind.Kind.TheVariants.{Privileged, Control, ModeDep, Location, Bound, UControl, ULocation, UBound}
use Rattle.pg_cert.specs.declared.line.Heading.TheVariants.{PlainOne, PlainTwo, HybridOne}
use Rattle.pg_cert.specs.declared.line.Found.{Found}
use Rattle.pg_cert.specs.declared.line.Found.TheVariants.{Refuted, Shown, Spent}
use Rattle.pg_cert.specs.declared.line.Line.{Line}
use Rattle.pg_cert.specs.declared.line.Line.TheVariants.{First, Header, Step, Remove, Size, Psw, Cells, End}
use Rattle.pg_cert.specs.Lines.{kind_text, found_parts, step_parts, psw_parts, line_parts, line_text, most_budget, most_number, most_variable, is_found, are_lits, are_hints, is_psw, are_cells, ascend, is_line, IsLine}
use Rattle.pg_cert.specs.Reading.{then_read, read_number, read_lits, read_numbers, read_words, read_kind, read_mode, read_found, read_header, read_cells, read_parts, but_last}
use Rattle.pg_cert.proofs.Spelled.{list_all-append, list_all-implied, decimal_is_digits, read_number-decimal, read_lits-signed, read_numbers-decimal, ascend-numbers, read_words-hex, hex_is_hex}

-- ---- what is read of the parts of a line

read_kind-text : (kind : Kind) → read_kind (kind_text kind) ≡ Some kind
read_kind-text Privileged = refl
read_kind-text Control = refl
read_kind-text ModeDep = refl
read_kind-text Location = refl
read_kind-text Bound = refl
read_kind-text UControl = refl
read_kind-text ULocation = refl
read_kind-text UBound = refl

read_found-parts : (name kind : List ℕ) (found : Found) → is_found found ≡ true → read_found (codes "finding" ∷ name ∷ kind ∷ found_parts found) ≡ Some found
read_found-parts name kind Refuted h = refl
read_found-parts name kind Shown h = refl
read_found-parts name kind (Spent k) h =
    let most : k ≤ most_budget = leb-true k most_budget (and_parts (nat_le 1 k) (nat_le k most_budget) h).1 in
    ap (λ o. then_read o (λ n. Some (Spent n))) (read_number-decimal most_number k (omega arith) (omega arith))

read_header-parts : (name : List ℕ) (kind : Kind) (found : Found) → is_found found ≡ true → read_header (codes "finding" ∷ name ∷ kind_text kind ∷ found_parts found) ≡ Some (Header name kind found)
read_header-parts name kind found h =
    ap (λ o. then_read o (λ k. then_read (read_found (codes "finding" ∷ name ∷ kind_text kind ∷ found_parts found)) (λ f. Some (Header name k f)))) (read_kind-text kind)
    ∙ ap (λ o. then_read o (λ f. Some (Header name kind f))) (read_found-parts name (kind_text kind) found h)

module _ (shape : Shape) (numbers : IsShape shape) where
  address_most : 2 ^ shape.a ≤ 2 ^ 20
  address_most = pow-le-pow_right (lit< tt) numbers.address_most

  small : (n : ℕ) → n < 2 ^ shape.a → read_number most_number (decimal n) ≡ Some n
  small n l =
      let most = address_most in
      read_number-decimal most_number n (omega arith) (omega arith)

  read_step-parts : (lits : List ℤ) (hints : List ℕ) → are_lits lits ≡ true → are_hints hints ≡ true → read_parts shape.w (step_parts lits hints) ≡ Some (Step (record { lits = lits; hints = hints }))
  unfolding read_parts
  read_step-parts lits hints hl hh =
      let tail : List (List ℕ) = map decimal hints ++ (48 ∷ []) ∷ [] in
      let go : (List ℤ × List (List ℕ)) → Option Line = λ r. then_read (read_numbers r.1) (λ hs. Some (Step (record { lits = r.0; hints = hs }))) in
      ap (λ o. then_read o go) (ap read_lits (append_assoc (map signed_decimal lits) ((48 ∷ []) ∷ map decimal hints) ((48 ∷ []) ∷ [])) ∙ read_lits-signed 0 lits tail hl)
      ∙ ap (λ o. then_read o (λ (hs : List ℕ). Some (Step (record { lits = lits; hints = hs })))) (read_numbers-decimal hints hh)

  read_psw-parts : (psw : Psws) → is_psw shape.a psw ≡ true → read_parts shape.w (psw_parts psw) ≡ Some (Psw psw)
  unfolding read_parts
  read_psw-parts psw h =
      let first = and_parts (nat_lt psw.p (2 ^ shape.a)) (nat_lt psw.l (2 ^ shape.a) && nat_lt psw.b (2 ^ shape.a)) h in
      let second = and_parts (nat_lt psw.l (2 ^ shape.a)) (nat_lt psw.b (2 ^ shape.a)) first.1 in
      let with_b : Mode → ℕ → ℕ → ℕ → Option Line = λ m p l b. Some (Psw (record { mode = m; p = p; l = l; b = b })) in
      let with_l : Mode → ℕ → ℕ → Option Line = λ m p l. then_read (read_number most_number (decimal psw.b)) (with_b m p l) in
      let with_p : Mode → ℕ → Option Line = λ m p. then_read (read_number most_number (decimal psw.l)) (with_l m p) in
      let with_mode : Mode → Option Line = λ m. then_read (read_number most_number (decimal psw.p)) (with_p m) in
      ap (λ o. then_read o with_mode) (mode_read psw.mode)
      ∙ ap (λ o. then_read o (with_p psw.mode)) (small psw.p (ltb-true psw.p (2 ^ shape.a) first.0))
      ∙ ap (λ o. then_read o (with_l psw.mode psw.p)) (small psw.l (ltb-true psw.l (2 ^ shape.a) second.0))
      ∙ ap (λ o. then_read o (with_b psw.mode psw.p psw.l)) (small psw.b (ltb-true psw.b (2 ^ shape.a) second.1))
    where
      mode_read : (mode : Mode) → read_mode (mode_text mode) ≡ Some mode
      mode_read S = refl
      mode_read U = refl

  colon_first : (head : List ℕ) (parts : List (List ℕ)) → slice_index head (length head - 1) ≡ 58 → read_parts shape.w (head ∷ parts) ≡ read_cells shape.w (head ∷ parts)
  unfolding read_parts
  colon_first head parts e =
      let test : (slice_index head (length head - 1) == 58) ≡ true = eq-eqb (slice_index head (length head - 1)) 58 e in
      rw test refl

  read_cells-parts : (first : ℕ) (words : List ℕ) → are_cells shape.w first words ≡ true → read_parts shape.w ((decimal first ++ 58 ∷ []) ∷ map (hex_text (shape.w / 4)) words) ≡ Some (Cells first words)
  unfolding read_parts
  read_cells-parts first words h =
      let d : List ℕ = decimal first in
      let head : List ℕ = d ++ 58 ∷ [] in
      let parts : List (List ℕ) = map (hex_text (shape.w / 4)) words in
      let count : Bool = nat_le 1 (length words) && nat_le (length words) line_cells in
      let fit : Bool = list_all (λ x. nat_lt x (2 ^ shape.w)) words in
      let some : Bool = list_any (λ x. not (x == 0)) words in
      let place : Bool = nat_le first most_number && (first % line_cells == 0) in
      let both = and_parts place (count && (some && fit)) h in
      let upper : first ≤ most_number = leb-true first most_number (and_parts (nat_le first most_number) (first % line_cells == 0) both.0).0 in
      let fits : fit ≡ true = (and_parts some fit (and_parts count (some && fit) both.1).1).1 in
      let len : length head - 1 ≡ length d = omega (arith, length-append d (58 ∷ [])) in
      let end : length d ≡ length head - 1 = omega (arith, len) in
      let colon : slice_index head (length head - 1) ≡ 58 = get_or_push d 58 0 (length head - 1) end in
      let digits : take (length head - 1) head ≡ d = ap (λ n. take n head) len ∙ take-append-le (length d) d (58 ∷ []) (omega arith) ∙ take_all (length d) d (omega arith) in
      let with_first : ℕ → Option Line = λ f. then_read (read_words shape.w parts) (λ ws. Some (Cells f ws)) in
      colon_first head parts colon
      ∙ ap (λ ds. then_read (read_number most_number ds) with_first) digits
      ∙ ap (λ o. then_read o with_first) (read_number-decimal most_number first upper (omega arith))
      ∙ ap (λ o. then_read o (λ (ws : List ℕ). Some (Cells first ws))) (read_words-hex shape.w words numbers.whole_bytes fits)

  pub read_parts-line : (line : Line) → IsLine shape line → read_parts shape.w (line_parts shape.w line) ≡ Some line
  unfolding read_parts line_parts is_line
  read_parts-line (First PlainOne) h = refl
  read_parts-line (First PlainTwo) h = refl
  read_parts-line (First HybridOne) h = refl
  read_parts-line (Header name kind found) h = read_header-parts name kind found (and_parts (is_word name) (is_found found) h).1
  read_parts-line (Step step) h =
      let both = and_parts (are_lits step.lits) (are_hints step.hints) h in
      read_step-parts step.lits step.hints both.0 both.1
  read_parts-line (Remove removed) h =
      let both = and_parts (nat_le 1 (length removed)) (ascend most_number 0 removed) h in
      ap (λ o. then_read o (λ (ns : List ℕ). Some (Remove ns))) (read_numbers-decimal removed (ascend-numbers 0 removed both.1))
  read_parts-line (Size n) h =
      let most : n ≤ shape.q = leb-true n shape.q (and_parts (nat_le 2 n) (nat_le n shape.q) h).1 in
      let below = numbers.size_most in
      ap (λ o. then_read o (λ v. Some (Size v))) (small n (omega arith))
  read_parts-line (Psw psw) h = read_psw-parts psw h
  read_parts-line (Cells first words) h = read_cells-parts first words h
  read_parts-line End h = refl

-- ---- the bytes of a part

-- a byte that is seen: above a space, and below hexadecimal 7f
abbrev pub is_graphic : ℕ → Bool
is_graphic c = nat_lt 32 c && nat_le c 126

abbrev pub graphic : List ℕ → Bool
graphic part = list_all is_graphic part

digit_graphic : (c : ℕ) → is_digit c ≡ true → is_graphic c ≡ true
digit_graphic c h = grind (arith, nat_tests)

hex_graphic : (c : ℕ) → is_ascii_hexdigit c ≡ true → is_graphic c ≡ true
hex_graphic c h = grind (arith, nat_tests)

word_graphic : (c : ℕ) → is_word_byte c ≡ true → is_graphic c ≡ true
word_graphic c h = grind (arith, nat_tests)

letter_graphic : (c : ℕ) → is_letter c ≡ true → is_graphic c ≡ true
letter_graphic c h = grind (arith, nat_tests)

decimal_graphic : (n : ℕ) → n < 2 ^ 64 → graphic (decimal n) ≡ true
decimal_graphic n h = list_all-implied is_digit is_graphic digit_graphic (decimal n) (decimal_is_digits n h)

lit_graphic : (z : ℤ) → nat_abs z ≤ most_variable → graphic (signed_decimal z) ≡ true
lit_graphic (pos n) l = decimal_graphic n (omega arith)
lit_graphic (negsuc n) l = and_from true (graphic (decimal (suc n))) refl (decimal_graphic (suc n) (omega arith))

name_graphic : (name : List ℕ) → is_word name ≡ true → graphic name ≡ true
name_graphic [] h = refl
name_graphic (c ∷ cs) h =
    let front = (and_parts (is_letter c && list_all is_word_byte cs) (nat_le (length (c ∷ cs)) most_name_bytes) h).0 in
    let both = and_parts (is_letter c) (list_all is_word_byte cs) front in
    and_from (is_graphic c) (graphic cs) (letter_graphic c both.0) (list_all-implied is_word_byte is_graphic word_graphic cs both.1)

lits_graphic : (above : ℕ) (zs : List ℤ) → ascend most_variable above (map nat_abs zs) ≡ true → list_all graphic (map signed_decimal zs) ≡ true
lits_graphic above [] h = refl
lits_graphic above (z ∷ zs) h =
    let first = and_parts (nat_lt above (nat_abs z)) (nat_le (nat_abs z) most_variable && ascend most_variable (nat_abs z) (map nat_abs zs)) h in
    let second = and_parts (nat_le (nat_abs z) most_variable) (ascend most_variable (nat_abs z) (map nat_abs zs)) first.1 in
    and_from (graphic (signed_decimal z)) (list_all graphic (map signed_decimal zs)) (lit_graphic z (leb-true (nat_abs z) most_variable second.0)) (lits_graphic (nat_abs z) zs second.1)

numbers_graphic : (ns : List ℕ) → list_all (λ n. nat_le 1 n && nat_le n most_number) ns ≡ true → list_all graphic (map decimal ns) ≡ true
numbers_graphic [] h = refl
numbers_graphic (n ∷ ns) h =
    let both = and_parts (nat_le 1 n && nat_le n most_number) (list_all (λ n. nat_le 1 n && nat_le n most_number) ns) h in
    let upper : n ≤ most_number = leb-true n most_number (and_parts (nat_le 1 n) (nat_le n most_number) both.0).1 in
    and_from (graphic (decimal n)) (list_all graphic (map decimal ns)) (decimal_graphic n (omega arith)) (numbers_graphic ns both.1)

words_graphic : (n : ℕ) (xs : List ℕ) → list_all graphic (map (hex_text n) xs) ≡ true
words_graphic n [] = refl
words_graphic n (x ∷ xs) =
    and_from (graphic (hex_text n x)) (list_all graphic (map (hex_text n) xs)) (list_all-implied is_ascii_hexdigit is_graphic hex_graphic (hex_text n x) (hex_is_hex n x)) (words_graphic n xs)

kind_graphic : (kind : Kind) → graphic (kind_text kind) ≡ true
kind_graphic Privileged = refl
kind_graphic Control = refl
kind_graphic ModeDep = refl
kind_graphic Location = refl
kind_graphic Bound = refl
kind_graphic UControl = refl
kind_graphic ULocation = refl
kind_graphic UBound = refl

mode_graphic : (mode : Mode) → graphic (mode_text mode) ≡ true
mode_graphic S = refl
mode_graphic U = refl

found_graphic : (found : Found) → is_found found ≡ true → list_all graphic (found_parts found) ≡ true
found_graphic Refuted h = refl
found_graphic Shown h = refl
found_graphic (Spent k) h =
    let most : k ≤ most_budget = leb-true k most_budget (and_parts (nat_le 1 k) (nat_le k most_budget) h).1 in
    and_from (graphic (decimal k)) true (decimal_graphic k (omega arith)) refl

-- one part more
and_more : (part : List ℕ) (parts : List (List ℕ)) → graphic part ≡ true → list_all graphic parts ≡ true → list_all graphic (part ∷ parts) ≡ true
and_more part parts h rest = and_from (graphic part) (list_all graphic parts) h rest

module _ (shape : Shape) (numbers : IsShape shape) where
  field_graphic : (n : ℕ) → nat_lt n (2 ^ shape.a) ≡ true → graphic (decimal n) ≡ true
  field_graphic n h =
      let most = address_most shape numbers in
      let below : n < 2 ^ shape.a = ltb-true n (2 ^ shape.a) h in
      decimal_graphic n (omega arith)

  pub line_graphic : (line : Line) → IsLine shape line → list_all graphic (line_parts shape.w line) ≡ true
  unfolding line_parts is_line
  line_graphic (First PlainOne) h = refl
  line_graphic (First PlainTwo) h = refl
  line_graphic (First HybridOne) h = refl
  line_graphic (Header name kind found) h =
      let both = and_parts (is_word name) (is_found found) h in
      and_more name (kind_text kind ∷ found_parts found) (name_graphic name both.0) (and_more (kind_text kind) (found_parts found) (kind_graphic kind) (found_graphic found both.1))
  line_graphic (Step step) h =
      let both = and_parts (are_lits step.lits) (are_hints step.hints) h in
      let lits : List (List ℕ) = map signed_decimal step.lits in
      let hints : List (List ℕ) = (48 ∷ []) ∷ map decimal step.hints in
      list_all-append graphic (lits ++ hints) ((48 ∷ []) ∷ [])
      (list_all-append graphic lits hints (lits_graphic 0 step.lits both.0) (numbers_graphic step.hints both.1)) refl
  line_graphic (Remove removed) h =
      let both = and_parts (nat_le 1 (length removed)) (ascend most_number 0 removed) h in
      list_all-append graphic (map decimal removed) ((48 ∷ []) ∷ []) (numbers_graphic removed (ascend-numbers 0 removed both.1)) refl
  line_graphic (Size n) h =
      let most : n ≤ shape.q = leb-true n shape.q (and_parts (nat_le 2 n) (nat_le n shape.q) h).1 in
      let below = numbers.size_most in
      let bits = address_most shape numbers in
      and_more (decimal n) [] (decimal_graphic n (omega arith)) refl
  line_graphic (Psw psw) h =
      let first = and_parts (nat_lt psw.p (2 ^ shape.a)) (nat_lt psw.l (2 ^ shape.a) && nat_lt psw.b (2 ^ shape.a)) h in
      let second = and_parts (nat_lt psw.l (2 ^ shape.a)) (nat_lt psw.b (2 ^ shape.a)) first.1 in
      and_more (mode_text psw.mode) (decimal psw.p ∷ decimal psw.l ∷ decimal psw.b ∷ []) (mode_graphic psw.mode)
      (and_more (decimal psw.p) (decimal psw.l ∷ decimal psw.b ∷ []) (field_graphic psw.p first.0)
      (and_more (decimal psw.l) (decimal psw.b ∷ []) (field_graphic psw.l second.0)
      (and_more (decimal psw.b) [] (field_graphic psw.b second.1) refl)))
  line_graphic (Cells first words) h =
      let count : Bool = nat_le 1 (length words) && nat_le (length words) line_cells in
      let rest : Bool = list_any (λ x. not (x == 0)) words && list_all (λ x. nat_lt x (2 ^ shape.w)) words in
      let place = (and_parts (nat_le first most_number && (first % line_cells == 0)) (count && rest) h).0 in
      let upper : first ≤ most_number = leb-true first most_number (and_parts (nat_le first most_number) (first % line_cells == 0) place).0 in
      and_more (decimal first ++ 58 ∷ []) (map (hex_text (shape.w / 4)) words)
      (list_all-append is_graphic (decimal first) (58 ∷ []) (decimal_graphic first (omega arith)) refl) (words_graphic (shape.w / 4) words)
  line_graphic End h = refl

  -- a line has a part
  some_parts : (line : Line) → 0 < length (line_parts shape.w line)
  unfolding line_parts
  some_parts (First PlainOne) = omega arith
  some_parts (First PlainTwo) = omega arith
  some_parts (First HybridOne) = omega arith
  some_parts (Header name kind found) = omega arith
  some_parts (Step step) = omega arith
  some_parts (Remove removed) = omega arith
  some_parts (Size n) = omega arith
  some_parts (Psw psw) = omega arith
  some_parts (Cells first words) = omega arith
  some_parts End = omega arith

-- ---- what stands between spaces

no_space : (c : ℕ) → is_graphic c ≡ true → (c == 32) ≡ false
no_space c h = grind (arith, nat_tests)

none_space : (part : List ℕ) → graphic part ≡ true → All (λ (c : ℕ). (c == 32) ≡ false) part
none_space part h = λ k d l. no_space (get_or part k d) (AllPass-from_list_all is_graphic part h k d l)

pub split_joined : (parts : List (List ℕ)) → 0 < length parts → list_all graphic parts ≡ true → slice_split (λ c. c == 32) (join_with_byte 32 parts) ≡ parts
split_joined [] l h = absurd (omega arith)
split_joined (part ∷ []) l h = slice_split_none (λ c. c == 32) part (none_space part (and_parts (graphic part) true h).0)
split_joined (part ∷ next ∷ parts) l h =
    let both = and_parts (graphic part) (list_all graphic (next ∷ parts)) h in
    slice_split_at (λ c. c == 32) part 32 (join_with_byte 32 (next ∷ parts)) (none_space part both.0) refl
    ∙ ap (λ ps. part ∷ ps) (split_joined (next ∷ parts) (omega arith) both.1)

pub but_last-push : (text : List ℕ) (c : ℕ) → but_last (text ++ c ∷ []) ≡ text
but_last-push text c =
    let len : length (text ++ c ∷ []) - 1 ≡ length text = omega (arith, length-append text (c ∷ [])) in
    ap (λ n. take n (text ++ c ∷ [])) len ∙ take-append-le (length text) text (c ∷ []) (omega arith) ∙ take_all (length text) text (omega arith)

-- what a text is read as
abbrev pub read_text : ℕ → List ℕ → Option Line
read_text w text = read_parts w (slice_split (λ c. c == 32) (but_last text))

pub read_text-line : (shape : Shape) → IsShape shape → (line : Line) → IsLine shape line → read_text shape.w (line_text shape line) ≡ Some line
unfolding line_text
read_text-line shape numbers line h =
    ap (λ t. read_parts shape.w (slice_split (λ c. c == 32) t)) (but_last-push (join_with_byte 32 (line_parts shape.w line)) 10)
    ∙ ap (read_parts shape.w) (split_joined (line_parts shape.w line) (some_parts shape numbers line) (line_graphic shape numbers line h))
    ∙ read_parts-line shape numbers line h

some_injective : (x y : Line) → Some x ≡ Some y → x ≡ y
some_injective x y e = let line_or : Option Line → Line = λ o. elim o [ Some l ↦ l | None ↦ x ] in ap line_or e

pub one_line : (shape : Shape) (x y : Line) → IsShape shape → IsLine shape x → IsLine shape y → line_text shape x ≡ line_text shape y → x ≡ y
one_line shape x y numbers hx hy e =
    some_injective x y (sym (read_text-line shape numbers x hx) ∙ ap (read_text shape.w) e ∙ read_text-line shape numbers y hy)
