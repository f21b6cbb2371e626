-- The source that `disassemble` writes, assembled.
use Rattle.std.proofs.Common.{◌≡◌, ℕ, zero, suc, ◌+◌, ◌-◌, ◌/◌, ◌%◌, ◌^◌, ◌<◌, ◌≤◌, Bool, true, false, not, cond, ◌&&◌, ◌||◌, List, [], ◌∷◌, ◌++◌, length, map, set, All, Option, None, Some, Ok, Err, refl, ap, sym, subst, ◌∙◌, arith, append_assoc, length-append}
use Rattle.std.specs.Prelude.{◌==◌, nat_lt, nat_le, position, replicate, filter, slice_get, bytes_eq, codes, unwrap_or}
use Rattle.std.specs.Option.{option_map}
use Rattle.std.specs.List.{list_all, prefix_len, slice_split}
use Rattle.std.specs.Char.{is_ascii_digit, is_ascii_hexdigit}
use Rattle.std.specs.Str.Parse.{digits_value}
use Rattle.std.specs.Fmt.{decimal}
use Rattle.std.proofs.Math.Nat.{mod-le}
use Rattle.std.proofs.Math.Pow.{pow_mono}
use Rattle.std.proofs.lemmas.Bool.{and_parts, and_from, or_parts, or_left, eqb-true, eq-eqb, le-leb, le-ltb, lt-ltb}
use Rattle.std.proofs.lemmas.Bool.Decides.{nat_tests}
use Rattle.std.proofs.lemmas.Fmt.{length-decimal-le, decimal_nonempty, decimal_is_IsNumeral}
use Rattle.std.proofs.lemmas.Nat.{shr_le}
use Rattle.std.proofs.lemmas.Option.{slice_get-get_or, slice_get-map}
use Rattle.std.proofs.lemmas.Slice.Eq.{bytes_eq-Decides}
use Rattle.std.proofs.lemmas.List.{append-nil, length_push, set_at, get_or_at, take_all}
use Rattle.std.proofs.lemmas.List.Folds.{list_any-append}
use Rattle.std.proofs.lemmas.List.Elements.{All-head, All-tail}
use Rattle.std.proofs.lemmas.List.Splits.{slice_split_at, slice_split_none}
use Rattle.pg_ast.specs.declared.tree.Instr.{Instr as Instruction}
use Rattle.pg_ast.specs.declared.tree.Desc.{Desc}
use Rattle.pg_lang_token.specs.Words.{is_word_byte, is_letter, is_word, is_name, is_reserved, most_name_bytes}
use Rattle.pg_text.specs.Cutting.{limited, dec_number}
use Rattle.pg_text.specs.Printing.{hex_text, hex_word_of}
use Rattle.pg_text.proofs.Digits.{limited_is}
use Rattle.pg_text.proofs.Hex.{length-hex_text, digits_value-hex_text, word_below}
use Rattle.pg_image.specs.Images.{lines_of, content, is_gap, parts_of}
use Rattle.pg_image.proofs.Cuts.{keep_some}
use Rattle.pg_lang_meaning.specs.Patterns.{matches, matching_number}
use Rattle.pg_lang_valid.specs.Overlaps.{is_field_letter}
use Rattle.pg_lang_valid.specs.Twice.{is_among, first_twice, instr_names, let_twice_among, first_of_two}
use Rattle.pg_lang_valid.specs.Valid.{as_twice, IsValid}
use Rattle.pg_lang_valid.proofs.ValidFacts.{IsShape-of_valid}
use Rattle.pg_asm.specs.declared.fault.AsmFault.TheVariants.{Long, Token, Name, Field, Range, Place, Overlap}
use Rattle.pg_asm.specs.declared.fields.LetterField.{LetterField}
use Rattle.pg_asm.specs.Words.{begins_field, field_here, fields_behind, fields_of, value_in, values_in, kept_bits, word_by, pattern_of}
use Rattle.pg_asm.specs.Said.{Value, Number, Named, Operand, Said, Blank, At, Word, Instr, most_place_digits, value_said, begins_operand, operand_said, in_front, operands_said, alone, mark_said, word_said, said_of}
use Rattle.pg_asm.specs.Sources.{most_source_bytes, may_stand, foreign_place, with_line, said_from, first_place, place_behind, Labels, labels_of, numbers_of, same_letters, fitted, encoded, put_word, cells_behind, then_due, cells_from, filled, lines_due, cells_due, source_due}
use Rattle.pg_asm.specs.Texts.{fields_text, word_text, instr_text, said_text, source_text}
use Rattle.pg_asm.proofs.WordLemmas.{values-again, values-fit}
use Rattle.pg_asm.proofs.DecodeLemmas.{pattern-there, finds}
use Rattle.pg_asm.proofs.TextBytes.{all-both, all-implied, none-pass, decimal-digits, hex-digits, lines-more}

-- ---- bytes

digit-stands : (c : ℕ) → is_ascii_digit c ≡ true → may_stand c ≡ true
digit-stands c h = grind (arith, nat_tests)

hex-stands : (c : ℕ) → is_ascii_hexdigit c ≡ true → may_stand c ≡ true
hex-stands c h = grind (arith, nat_tests)

word-stands : (c : ℕ) → is_word_byte c ≡ true → may_stand c ≡ true
word-stands c h = grind (arith, nat_tests)

letter-stands : (c : ℕ) → is_field_letter c ≡ true → may_stand c ≡ true
letter-stands c h = grind (arith, nat_tests)

stands-no_lf : (c : ℕ) → may_stand c ≡ true → (c == 10) ≡ false
stands-no_lf c h = grind (arith, nat_tests)

stands-no_hash : (c : ℕ) → may_stand c ≡ true → (c == 35) ≡ false
stands-no_hash c h = grind (arith, nat_tests)

digit-no_gap : (c : ℕ) → is_ascii_digit c ≡ true → is_gap c ≡ false
digit-no_gap c h = grind (arith, nat_tests)

hex-no_gap : (c : ℕ) → is_ascii_hexdigit c ≡ true → is_gap c ≡ false
hex-no_gap c h = grind (arith, nat_tests)

word-no_gap : (c : ℕ) → is_word_byte c ≡ true → is_gap c ≡ false
word-no_gap c h = grind (arith, nat_tests)

letter-word : (c : ℕ) → is_letter c ≡ true → is_word_byte c ≡ true
letter-word c h = grind (arith, nat_tests)

field-word : (c : ℕ) → is_field_letter c ≡ true → is_word_byte c ≡ true
field-word c h = grind (arith, nat_tests)

-- ---- lines whose bytes may all stand there

prefix-all : (q : ℕ → Bool) (xs : List ℕ) → list_all q xs ≡ true → prefix_len q xs ≡ length xs
prefix-all q [] h = refl
prefix-all q (x ∷ xs) h =
    let both = and_parts (q x) (list_all q xs) h in
    let rest : 1 + prefix_len q xs ≡ length (x ∷ xs) = omega (arith, prefix-all q xs both.1) in
    ap (λ b. cond b (1 + prefix_len q xs) 0) both.0 ∙ rest

content-whole : (xs : List ℕ) → list_all may_stand xs ≡ true → content xs ≡ xs
content-whole xs h =
    let e : prefix_len (λ c. not (c == 35)) xs ≡ length xs =
    prefix-all (λ c. not (c == 35)) xs (all-implied may_stand (λ c. not (c == 35)) (λ c stands. ap not (stands-no_hash c stands)) xs h) in
    take_all (prefix_len (λ c. not (c == 35)) xs) xs (omega arith)

none-foreign : (xs : List ℕ) → list_all may_stand xs ≡ true → position (λ c. not (may_stand c)) (content xs) ≡ None
none-foreign xs h =
    let e : prefix_len (λ c. not (not (may_stand c))) xs ≡ length xs =
    prefix-all (λ c. not (not (may_stand c))) xs (all-implied may_stand (λ c. not (not (may_stand c))) (λ c stands. ap (λ b. not (not b)) stands) xs h) in
    ap (position (λ c. not (may_stand c))) (content-whole xs h)
    ∙ ap (λ n. cond (nat_lt n (length xs)) (Some n) None) e
    ∙ ap (λ b. cond b (Some (length xs)) None) (le-ltb (length xs) (length xs) (omega arith))

no_lf : (xs : List ℕ) → list_all may_stand xs ≡ true → All (λ c. (c == 10) ≡ false) xs
no_lf xs h = none-pass may_stand (λ c. c == 10) stands-no_lf xs h

-- ---- parts

parts-more : (part rest : List ℕ) → 0 < length part → All (λ c. is_gap c ≡ false) part → parts_of (part ++ 32 ∷ rest) ≡ part ∷ parts_of rest
unfolding parts_of
parts-more part rest some none =
    ap (filter (λ p. nat_lt 0 (length p))) (slice_split_at is_gap part 32 rest none refl) ∙ keep_some part (slice_split is_gap rest) some

parts-one : (part : List ℕ) → 0 < length part → All (λ c. is_gap c ≡ false) part → parts_of part ≡ part ∷ []
unfolding parts_of
parts-one part some none = ap (filter (λ p. nat_lt 0 (length p))) (slice_split_none is_gap part none) ∙ keep_some part [] some

-- ---- numbers

dec-again : (n : ℕ) → n < 2 ^ 64 → dec_number (decimal n) ≡ Some n
dec-again n fits =
    ap (λ b. cond b (limited (digits_value 10 (decimal n))) None)
    (and_from (nat_le 1 (length (decimal n))) (list_all is_ascii_digit (decimal n)) (le-leb 1 (length (decimal n)) (decimal_nonempty n fits)) (decimal-digits n fits))
    ∙ ap limited (decimal_is_IsNumeral n fits).1 ∙ limited_is n fits

hex-again : (w word : ℕ) → w % 8 ≡ 0 → word < 2 ^ w → hex_word_of w (hex_text (w / 4) word) ≡ Some word
hex-again w word bytes fits =
    let hex : List ℕ = hex_text (w / 4) word in
    ap (λ b. cond b (Some (digits_value 16 hex)) None)
    (and_from (length hex == w / 4) (list_all is_ascii_hexdigit hex) (eq-eqb (length hex) (w / 4) (length-hex_text (w / 4) word)) (hex-digits (w / 4) word))
    ∙ ap (λ v. Some v) (digits_value-hex_text (w / 4) word (word_below w word bytes fits))

-- ---- operands

-- `f=V`, and what it says
abbrev part_of : ℕ → LetterField → List ℕ
part_of word f = f.letter ∷ 61 ∷ decimal (value_in word f)

abbrev operand_of : ℕ → LetterField → Operand
operand_of word f = record { letter = f.letter; value = Number (value_in word f) }

value-most : (word : ℕ) (f : LetterField) → value_in word f ≤ word
value-most word f = omega (arith, mod-le (word / 2 ^ f.low) (2 ^ f.width), shr_le word f.low)

-- the fields of a pattern have small letters
letters-small : (before : ℕ) (cs : List ℕ) → list_all (λ (f : LetterField). is_field_letter f.letter) (fields_behind before cs) ≡ true
unfolding fields_behind
letters-small before [] = refl
letters-small before (c ∷ cs) = by (begins_field before c) refl (letters-small c cs)
  where
    by : (b : Bool) → begins_field before c ≡ b → list_all (λ (f : LetterField). is_field_letter f.letter) (fields_behind c cs) ≡ true →
        list_all (λ (f : LetterField). is_field_letter f.letter) (cond b (field_here c cs ∷ fields_behind c cs) (fields_behind c cs)) ≡ true
    by true e rest =
        and_from (is_field_letter c) (list_all (λ (f : LetterField). is_field_letter f.letter) (fields_behind c cs)) (and_parts (is_field_letter c) (not (c == before)) e).0 rest
    by false e rest = rest

part-no_gap : (word : ℕ) (f : LetterField) → word < 2 ^ 64 → is_field_letter f.letter ≡ true → All (λ c. is_gap c ≡ false) (part_of word f)
part-no_gap word f fits letter =
    let small : value_in word f < 2 ^ 64 = omega (arith, value-most word f) in
    none-pass (λ c. is_word_byte c || (c == 61)) is_gap operand-no_gap (part_of word f)
    (and_from (is_word_byte f.letter || (f.letter == 61)) (list_all (λ c. is_word_byte c || (c == 61)) (61 ∷ decimal (value_in word f))) (or_left (is_word_byte f.letter) (f.letter == 61) (field-word f.letter letter))
    (all-implied is_ascii_digit (λ c. is_word_byte c || (c == 61)) digit-operand (decimal (value_in word f)) (decimal-digits (value_in word f) small)))
  where
    operand-no_gap : (c : ℕ) → (is_word_byte c || (c == 61)) ≡ true → is_gap c ≡ false
    operand-no_gap c h = grind (arith, nat_tests)

    digit-operand : (c : ℕ) → is_ascii_digit c ≡ true → (is_word_byte c || (c == 61)) ≡ true
    digit-operand c h = grind (arith, nat_tests)

-- a front, and the operands of fields behind it, are parts
parts-of_fields : (word : ℕ) (front : List ℕ) (fs : List LetterField) → word < 2 ^ 64 → 0 < length front → All (λ c. is_gap c ≡ false) front →
    list_all (λ (f : LetterField). is_field_letter f.letter) fs ≡ true → parts_of (front ++ fields_text word fs) ≡ front ∷ map (part_of word) fs
unfolding fields_text
parts-of_fields word front [] fits some none letters = ap parts_of (append-nil front) ∙ parts-one front some none
parts-of_fields word front (f ∷ fs) fits some none letters =
    let both = and_parts (is_field_letter f.letter) (list_all (λ (f : LetterField). is_field_letter f.letter) fs) letters in
    parts-more front (part_of word f ++ fields_text word fs) some none
    ∙ ap (λ ps. front ∷ ps) (parts-of_fields word (part_of word f) fs fits (omega arith) (part-no_gap word f fits both.0) both.1)

fields-stand : (word : ℕ) (fs : List LetterField) → word < 2 ^ 64 → list_all (λ (f : LetterField). is_field_letter f.letter) fs ≡ true → list_all may_stand (fields_text word fs) ≡ true
unfolding fields_text
fields-stand word [] fits letters = refl
fields-stand word (f ∷ fs) fits letters =
    let both = and_parts (is_field_letter f.letter) (list_all (λ (f : LetterField). is_field_letter f.letter) fs) letters in
    let small : value_in word f < 2 ^ 64 = omega (arith, value-most word f) in
    let digits : list_all may_stand (decimal (value_in word f)) ≡ true = all-implied is_ascii_digit may_stand digit-stands (decimal (value_in word f)) (decimal-digits (value_in word f) small) in
    all-both may_stand (32 ∷ f.letter ∷ 61 ∷ decimal (value_in word f)) (fields_text word fs)
    (and_from (may_stand f.letter) (list_all may_stand (decimal (value_in word f))) (letter-stands f.letter both.0) digits)
    (fields-stand word fs fits both.1)

operand-again : (word : ℕ) (f : LetterField) → word < 2 ^ 64 → is_field_letter f.letter ≡ true → operand_said (part_of word f) ≡ Some (operand_of word f)
operand-again word f fits letter =
    let part : List ℕ = part_of word f in
    let v : ℕ = value_in word f in
    let begins : begins_operand part ≡ true =
    and_from (nat_le 2 (length part) && is_field_letter f.letter) true (and_from (nat_le 2 (length part)) (is_field_letter f.letter) (le-leb 2 (length part) (omega arith)) letter) refl in
    let value : value_said (decimal v) ≡ Some (Number v) =
    ap (λ o. elim o [ Some n ↦ Some (Number n) | None ↦ cond (is_name (decimal v)) (Some (Named (decimal v))) None ]) (dec-again v (omega (arith, value-most word f))) in
    ap (λ b. cond b (option_map (λ (x : Value). let o : Operand = record { letter = f.letter; value = x } in o) (value_said (decimal v))) None) begins
    ∙ ap (option_map (λ (x : Value). let o : Operand = record { letter = f.letter; value = x } in o)) value

operands-again : (word : ℕ) (fs : List LetterField) → word < 2 ^ 64 → list_all (λ (f : LetterField). is_field_letter f.letter) fs ≡ true →
    operands_said (map (part_of word) fs) ≡ Some (map (operand_of word) fs)
unfolding operands_said
operands-again word [] fits letters = refl
operands-again word (f ∷ fs) fits letters =
    let both = and_parts (is_field_letter f.letter) (list_all (λ (f : LetterField). is_field_letter f.letter) fs) letters in
    ap (λ o. in_front o (operands_said (map (part_of word) fs))) (operand-again word f fits both.0)
    ∙ ap (in_front (Some (operand_of word f))) (operands-again word fs fits both.1)

letters-again : (word : ℕ) (fs : List LetterField) → same_letters fs (map (operand_of word) fs) ≡ true
unfolding same_letters
letters-again word [] = refl
letters-again word (f ∷ fs) = and_from (f.letter == f.letter) (same_letters fs (map (operand_of word) fs)) (eq-eqb f.letter f.letter refl) (letters-again word fs)

numbers-again : (labels : Labels) (word : ℕ) (fs : List LetterField) → numbers_of labels (map (operand_of word) fs) ≡ Some (map (value_in word) fs)
unfolding numbers_of
numbers-again labels word [] = refl
numbers-again labels word (f ∷ fs) = ap (in_front (Some (value_in word f))) (numbers-again labels word fs)

-- ---- names

same-bytes : (xs : List ℕ) → bytes_eq xs xs ≡ true
same-bytes xs = (bytes_eq-Decides xs xs).1 refl

-- where no name is given twice a name is found where it stands, and not among those that were seen
record IsFirst (seen names : List (List ℕ)) (k : ℕ) (name : List ℕ) : Type 0 where
  new : is_among seen name ≡ false
  place : prefix_len (λ m. not (bytes_eq m name)) names ≡ k
  within : k < length names

not-given : (b : Bool) (n : List ℕ) (later : Option (List ℕ)) → cond b (Some n) later ≡ None → (b ≡ false) × (later ≡ None)
not-given true n later h = absurd (cc h)
not-given false n later h = (refl, h)

is-first : (seen names : List (List ℕ)) (k : ℕ) (name : List ℕ) → first_twice seen names ≡ None → slice_get names k ≡ Some name → IsFirst seen names k name
unfolding first_twice
is-first seen [] k name once at = absurd (cc at)
is-first seen (n ∷ names) zero name once at =
    let same : n ≡ name = cc at in
    let new = not-given (is_among seen n) n (first_twice (seen ++ n ∷ []) names) once in
    record {
      new = ap (is_among seen) (sym same) ∙ new.0;
      place = ap (λ b. cond (not b) (1 + prefix_len (λ m. not (bytes_eq m name)) names) 0) (ap (λ m. bytes_eq m name) same ∙ same-bytes name);
      within = omega arith;
    }
is-first seen (n ∷ names) (suc k) name once at =
    let new = not-given (is_among seen n) n (first_twice (seen ++ n ∷ []) names) once in
    let later = is-first (seen ++ n ∷ []) names k name new.1 at in
    let parts = or_parts (is_among seen name) (bytes_eq n name || false) (sym (list_any-append (λ m. bytes_eq m name) seen (n ∷ [])) ∙ later.new) in
    let other : bytes_eq n name ≡ false = (or_parts (bytes_eq n name) false parts.1).0 in
    record {
      new = parts.0;
      place = ap (λ b. cond (not b) (1 + prefix_len (λ m. not (bytes_eq m name)) names) 0) other ∙ omega (arith, later.place);
      within = omega (arith, later.within);
    }

none-twice : (x y : Option (List ℕ)) → as_twice (first_of_two x y) ≡ None → x ≡ None
none-twice None y h = refl
none-twice (Some n) y h = absurd (cc h)

-- an instruction of a valid description is found by its name
pub name-found : (d : Desc) (k : ℕ) (i : Instruction) → IsValid d → slice_get d.instrs k ≡ Some i → position (λ m. bytes_eq m i.name.bytes) (instr_names d.instrs) ≡ Some k
name-found d k i v at =
    let name : List ℕ = i.name.bytes in
    let names : List (List ℕ) = instr_names d.instrs in
    let there : slice_get names k ≡ Some name = slice_get-map (λ (x : Instruction). x.name.bytes) d.instrs k ∙ ap (option_map (λ (x : Instruction). x.name.bytes)) at in
    let first = is-first [] names k name (none-twice (first_twice [] names) (let_twice_among d.instrs) v.names_once) there in
    ap (λ n. cond (nat_lt n (length names)) (Some n) None) first.place ∙ ap (λ b. cond b (Some k) None) (lt-ltb k (length names) first.within)

record IsNameText (name : List ℕ) : Type 0 where
  some : 0 < length name
  word : list_all is_word_byte name ≡ true
  other : bytes_eq name (codes "word") ≡ false

name-text : (name : List ℕ) → is_name name ≡ true → IsNameText name
name-text [] h = absurd (cc h)
name-text (c ∷ cs) h =
    let both = and_parts (is_word (c ∷ cs)) (not (is_reserved (c ∷ cs))) h in
    let few = and_parts (is_letter c && list_all is_word_byte cs) (nat_le (length (c ∷ cs)) most_name_bytes) both.0 in
    let letter = and_parts (is_letter c) (list_all is_word_byte cs) few.0 in
    record {
      some = omega arith;
      word = and_from (is_word_byte c) (list_all is_word_byte cs) (letter-word c letter.0) letter.1;
      other = by (bytes_eq (c ∷ cs) (codes "word")) refl;
    }
  where
    by : (b : Bool) → bytes_eq (c ∷ cs) (codes "word") ≡ b → b ≡ false
    by true e =
        let same : c ∷ cs ≡ codes "word" = (bytes_eq-Decides (c ∷ cs) (codes "word")).0 e in
        let no : false ≡ true = sym (ap is_name same) ∙ h in
        absurd (cc no)
    by false e = refl

-- ---- a word's line

-- a line says a word, whatever labels there are and wherever it stands
record IsSaid (d : Desc) (word : ℕ) (text : List ℕ) : Type 0 where
  said : Said
  stands : list_all may_stand text ≡ true
  says : said_of d.word (parts_of text) ≡ Some said
  moves : (place : ℕ) → place_behind said place ≡ place + 1
  puts : (labels : Labels) (n place : ℕ) (cells : List (Option ℕ)) → cells_behind d labels n place cells said ≡ put_word n place cells (Ok word)

-- by its digits
word-said : (d : Desc) (word : ℕ) → d.word % 8 ≡ 0 → 16 ≤ d.word → word < 2 ^ d.word → IsSaid d word (word_text d.word word)
word-said d word bytes wide fits =
    let w : ℕ = d.word in
    let hex : List ℕ = hex_text (w / 4) word in
    let parts : parts_of (codes "word" ++ 32 ∷ hex) ≡ codes "word" ∷ hex ∷ [] =
    parts-more (codes "word") hex (omega arith) (none-pass is_word_byte is_gap word-no_gap (codes "word") refl)
    ∙ ap (λ ps. codes "word" ∷ ps) (parts-one hex (omega (arith, length-hex_text (w / 4) word)) (none-pass is_ascii_hexdigit is_gap hex-no_gap hex (hex-digits (w / 4) word))) in
    record {
      said = Word word;
      stands = all-both may_stand (codes "word ") hex refl (all-implied is_ascii_hexdigit may_stand hex-stands hex (hex-digits (w / 4) word));
      says = ap (said_of w) parts ∙ ap (λ o. alone [] (option_map Word o)) (hex-again w word bytes fits);
      moves = λ place. refl;
      puts = λ labels n place cells. refl;
    }

-- by the name and the values of its instruction
instr-said : (d : Desc) (word k : ℕ) (i : Instruction) → IsValid d → word < 2 ^ 64 → slice_get d.instrs k ≡ Some i → matches i.pattern.bytes word ≡ true →
    kept_bits i.pattern.bytes word ≡ word → IsSaid d word (i.name.bytes ++ fields_text word (fields_of i.pattern.bytes))
instr-said d word k i v fits at matched kept =
    let name : List ℕ = i.name.bytes in
    let pattern : List ℕ = i.pattern.bytes in
    let fs : List LetterField = fields_of pattern in
    let text = name-text name i.name.is_name in
    let letters = letters-small 0 pattern in
    let operands : List Operand = map (operand_of word) fs in
    let parts : parts_of (name ++ fields_text word fs) ≡ name ∷ map (part_of word) fs = parts-of_fields word name fs fits text.some (none-pass is_word_byte is_gap word-no_gap name text.word) letters in
    record {
      said = Instr name operands;
      stands = all-both may_stand name (fields_text word fs) (all-implied is_word_byte may_stand word-stands name text.word) (fields-stand word fs fits letters);
      says = ap (said_of d.word) parts
          ∙ ap (λ b. cond b (word_said d.word (map (part_of word) fs))
          (cond (is_name name) (option_map (Instr name) (operands_said (map (part_of word) fs))) (alone (map (part_of word) fs) (mark_said name)))) text.other
          ∙ ap (λ b. cond b (option_map (Instr name) (operands_said (map (part_of word) fs))) (alone (map (part_of word) fs) (mark_said name))) i.name.is_name
          ∙ ap (option_map (Instr name)) (operands-again word fs fits letters);
      moves = λ place. refl;
      puts = λ labels n place cells. ap (put_word n place cells)
          (ap (λ o. elim o [ Some j ↦ encoded labels n (pattern_of d.instrs j) operands | None ↦ Err (Name n) ]) (name-found d k i v at)
          ∙ ap (λ p. encoded labels n p operands) (sym (pattern-there d.instrs k i at))
          ∙ ap (λ b. cond b (fitted n pattern (numbers_of labels operands)) (Err (Field n))) (letters-again word fs)
          ∙ ap (fitted n pattern) (numbers-again labels word fs)
          ∙ ap (λ b. cond b (Ok (word_by pattern (values_in pattern word))) (Err (Range n))) (values-fit word fs)
          ∙ ap (λ x. Ok x) (values-again pattern word matched ∙ kept));
    }

-- as `disassemble` writes it
said : (d : Desc) (word : ℕ) → IsValid d → word < 2 ^ d.word → IsSaid d word (said_text d word)
said d word v fits = by_number (matching_number d.instrs 0 word) refl
  where
    digits : IsSaid d word (word_text d.word word)
    digits = word-said d word (IsShape-of_valid d v).whole_bytes (IsShape-of_valid d v).word_least fits

    small : word < 2 ^ 64
    small = let most : 2 ^ d.word ≤ 2 ^ 64 = pow_mono (IsShape-of_valid d v).word_most in omega arith

    by_kept : (k : ℕ) (i : Instruction) (b : Bool) → (kept_bits i.pattern.bytes word == word) ≡ b → slice_get d.instrs k ≡ Some i → matches i.pattern.bytes word ≡ true →
        IsSaid d word (cond b (i.name.bytes ++ fields_text word (fields_of i.pattern.bytes)) (word_text d.word word))
    by_kept k i true e at matched = instr-said d word k i v small at matched (eqb-true (kept_bits i.pattern.bytes word) word e)
    by_kept k i false e at matched = digits

    by_number : (o : Option ℕ) → matching_number d.instrs 0 word ≡ o →
        IsSaid d word (elim o [
          | Some k ↦ elim (slice_get d.instrs k) [ Some i ↦ instr_text d.word word i | None ↦ word_text d.word word ]
          | None ↦ word_text d.word word
        ])
    by_number None e = digits
    by_number (Some k) e =
        let found = finds d.instrs 0 word k e in
        let same : k - 0 ≡ k = omega arith in
        let at : slice_get d.instrs k ≡ Some found.instr = ap (slice_get d.instrs) (sym same) ∙ found.there in
        subst (λ o. IsSaid d word (elim o [ Some i ↦ instr_text d.word word i | None ↦ word_text d.word word ])) (sym at)
        (by_kept k found.instr (kept_bits found.instr.pattern.bytes word == word) refl at found.matched)

-- ---- a place's line

record IsPlace (w at : ℕ) (text : List ℕ) : Type 0 where
  stands : list_all may_stand text ≡ true
  says : said_of w (parts_of text) ≡ Some (At at)

place-said : (w at : ℕ) → at < 10 ^ 7 → IsPlace w at (64 ∷ decimal at)
place-said w at small =
    let digits : List ℕ = decimal at in
    let fits : at < 2 ^ 64 = omega arith in
    let parts : parts_of (64 ∷ digits) ≡ (64 ∷ digits) ∷ [] =
    parts-one (64 ∷ digits) (omega arith) (none-pass (λ c. is_ascii_digit c || (c == 64)) is_gap mark-no_gap (64 ∷ digits) (all-implied is_ascii_digit (λ c. is_ascii_digit c || (c == 64)) digit-mark digits (decimal-digits at fits))) in
    record {
      stands = all-implied is_ascii_digit may_stand digit-stands digits (decimal-digits at fits);
      says = ap (said_of w) parts
          ∙ ap (λ b. option_map At (cond b (dec_number digits) None)) (le-leb (length digits) most_place_digits (length-decimal-le 7 at (omega arith) small fits))
          ∙ ap (option_map At) (dec-again at fits);
    }
  where
    mark-no_gap : (c : ℕ) → (is_ascii_digit c || (c == 64)) ≡ true → is_gap c ≡ false
    mark-no_gap c h = grind (arith, nat_tests)

    digit-mark : (c : ℕ) → is_ascii_digit c ≡ true → (is_ascii_digit c || (c == 64)) ≡ true
    digit-mark c h = or_left (is_ascii_digit c) (c == 64) h

-- ---- the whole text

-- a cell as it is given: not, where it is zero
abbrev given_as : ℕ → Option ℕ
given_as cell = cond (cell == 0) None (Some cell)

-- a text gives these cells from cell `at` on, behind cells that are done
record Gives (d : Desc) (at : ℕ) (cells text : List ℕ) : Type 0 where
  saids : List Said
  stands : (place : ℕ) → foreign_place place (lines_of text) ≡ None
  says : (n : ℕ) → said_from d.word n (lines_of text) ≡ Ok saids
  gives : (labels : Labels) (n place : ℕ) (done : List (Option ℕ)) → length done ≡ at →
      cells_from d labels n place saids (done ++ replicate (length cells) None) ≡ Ok (done ++ map given_as cells)

-- a word put in a cell that is not given
put-here : (n at word : ℕ) (done rest : List (Option ℕ)) → length done ≡ at → put_word n at (done ++ None ∷ rest) (Ok word) ≡ Ok ((done ++ Some word ∷ []) ++ rest)
put-here n at word done rest len =
    let cells : List (Option ℕ) = done ++ None ∷ rest in
    let within : at < length cells = omega (arith, length-append done (None ∷ rest)) in
    let there : slice_get cells at ≡ Some None = slice_get-get_or cells at None within ∙ ap (λ o. Some o) (get_or_at done None rest None at len) in
    ap (λ o. elim o [ None ↦ Err (Place n) | Some None ↦ Ok (set cells at (Some word)) | Some (Some earlier) ↦ Err (Overlap n) ]) there
    ∙ ap (λ cs. Ok cs) (set_at done None rest (Some word) at len ∙ sym (append_assoc done (Some word ∷ []) rest))

zero-next : (d : Desc) (at cell : ℕ) (cells text : List ℕ) → (cell == 0) ≡ true → Gives d (at + 1) cells text → Gives d at (cell ∷ cells) text
zero-next d at cell cells text none later = record {
  saids = later.saids;
  stands = later.stands;
  says = later.says;
  gives = λ labels n place done len.
      let rest : List (Option ℕ) = replicate (length cells) None in
      ap (cells_from d labels n place later.saids) (sym (append_assoc done (None ∷ []) rest))
      ∙ later.gives labels n place (done ++ None ∷ []) (length_push done None ∙ ap (λ k. k + 1) len)
      ∙ ap (λ cs. Ok cs) (append_assoc done (None ∷ []) (map given_as cells))
      ∙ ap (λ b. Ok (done ++ cond b None (Some cell) ∷ map given_as cells)) (sym none);
}

lines-next : (d : Desc) (at cell : ℕ) (cells first second rest text : List ℕ) → lines_of text ≡ first ∷ second ∷ lines_of rest → (cell == 0) ≡ false →
    IsPlace d.word at first → IsSaid d cell second → Gives d (at + 1) cells rest → Gives d at (cell ∷ cells) text
unfolding foreign_place said_from cells_from
lines-next d at cell cells first second rest text cut some placed word later =
    let w : ℕ = d.word in
    let lines : List (List ℕ) = lines_of rest in
    record {
      saids = At at ∷ word.said ∷ later.saids;
      stands = λ place. ap (foreign_place place) cut
          ∙ ap (λ o. elim o [ Some k ↦ Some (place + k) | None ↦ foreign_place (place + length first + 1) (second ∷ lines) ]) (none-foreign first placed.stands)
          ∙ ap (λ o. elim o [ Some k ↦ Some (place + length first + 1 + k) | None ↦ foreign_place (place + length first + 1 + length second + 1) lines ]) (none-foreign second word.stands)
          ∙ later.stands (place + length first + 1 + length second + 1);
      says = λ n. ap (said_from w n) cut
          ∙ ap (λ s. with_line n s (said_from w (n + 1) (second ∷ lines))) (ap (λ l. said_of w (parts_of l)) (content-whole first placed.stands) ∙ placed.says)
          ∙ ap (λ s. with_line n (Some (At at)) (with_line (n + 1) s (said_from w (n + 1 + 1) lines))) (ap (λ l. said_of w (parts_of l)) (content-whole second word.stands) ∙ word.says)
          ∙ ap (λ r. with_line n (Some (At at)) (with_line (n + 1) (Some word.said) r)) (later.says (n + 1 + 1));
      gives = λ labels n place done len.
          let unset : List (Option ℕ) = replicate (length cells) None in
          ap (λ r. then_due r (cells_from d labels (n + 1 + 1) (place_behind word.said at) later.saids)) (word.puts labels (n + 1) at (done ++ None ∷ unset) ∙ put-here (n + 1) at cell done unset len)
          ∙ later.gives labels (n + 1 + 1) (place_behind word.said at) (done ++ Some cell ∷ []) (length_push done (Some cell) ∙ ap (λ k. k + 1) len)
          ∙ ap (λ cs. Ok cs) (append_assoc done (Some cell ∷ []) (map given_as cells))
          ∙ ap (λ b. Ok (done ++ cond b None (Some cell) ∷ map given_as cells)) (sym some);
    }

two-lines : (first second rest : List ℕ) → list_all may_stand first ≡ true → list_all may_stand second ≡ true →
    lines_of (first ++ 10 ∷ second ++ 10 ∷ [] ++ rest) ≡ first ∷ second ∷ lines_of rest
two-lines first second rest one two =
    ap lines_of (append_assoc (first ++ 10 ∷ second) (10 ∷ []) rest ∙ append_assoc first (10 ∷ second) (10 ∷ rest))
    ∙ lines-more first (second ++ 10 ∷ rest) (no_lf first one) ∙ ap (λ ls. first ∷ ls) (lines-more second rest (no_lf second two))

source-gives : (d : Desc) (at : ℕ) (cells : List ℕ) → IsValid d → at + length cells ≤ 10 ^ 7 → All (λ cell. cell < 2 ^ d.word) cells → Gives d at cells (source_text d at cells)
unfolding source_text lines_of foreign_place said_from cells_from parts_of
source-gives d at [] v room all = record { saids = Blank ∷ []; stands = λ place. refl; says = λ n. refl; gives = λ labels n place done len. refl }
source-gives d at (cell ∷ cells) v room all =
    by (cell == 0) refl (source-gives d (at + 1) cells v (omega arith) (All-tail (λ cell. cell < 2 ^ d.word) cell cells all))
  where
    rest : List ℕ
    rest = source_text d (at + 1) cells

    by : (b : Bool) → (cell == 0) ≡ b → Gives d (at + 1) cells rest → Gives d at (cell ∷ cells) (cond b [] (64 ∷ decimal at ++ 10 ∷ said_text d cell ++ 10 ∷ []) ++ rest)
    by true is later = zero-next d at cell cells rest is later
    by false is later =
        let placed = place-said d.word at (omega arith) in
        let word = said d cell v (All-head (λ cell. cell < 2 ^ d.word) cell cells all) in
        lines-next d at cell cells (64 ∷ decimal at) (said_text d cell) rest (64 ∷ decimal at ++ 10 ∷ said_text d cell ++ 10 ∷ [] ++ rest)
        (two-lines (64 ∷ decimal at) (said_text d cell) rest placed.stands word.stands) is placed word later

filled-again : (cells : List ℕ) → filled (map given_as cells) ≡ cells
filled-again [] = refl
filled-again (cell ∷ cells) = by (cell == 0) refl (filled-again cells)
  where
    by : (b : Bool) → (cell == 0) ≡ b → filled (map given_as cells) ≡ cells → unwrap_or (cond b None (Some cell)) 0 ∷ filled (map given_as cells) ≡ cell ∷ cells
    by true e rest = let none : 0 ≡ cell = sym (eqb-true cell 0 e) in ap (λ c. c ∷ filled (map given_as cells)) none ∙ ap (λ cs. cell ∷ cs) rest
    by false e rest = ap (λ cs. cell ∷ cs) rest

-- what `disassemble` writes of an image, where it is no longer than a source may be, is a source of that image
pub source_text-assembles : (d : Desc) (size : ℕ) (cells : List ℕ) → IsValid d → length cells ≡ size → size ≤ d.size → All (λ cell. cell < 2 ^ d.word) cells →
    length (source_text d 0 cells) ≤ most_source_bytes → source_due d size (source_text d 0 cells) ≡ Ok cells
unfolding source_due
source_text-assembles d size cells v len few all short =
    let shape = IsShape-of_valid d v in
    let most : 2 ^ d.address ≤ 2 ^ 20 = pow_mono shape.address_most in
    let text : List ℕ = source_text d 0 cells in
    let g = source-gives d 0 cells v (omega (arith, shape.size_most)) all in
    ap (λ b. cond b (Err Long) (then_due (lines_due d.word text) (cells_due d size))) (le-ltb most_source_bytes (length text) short)
    ∙ ap (λ o. then_due (elim o [ Some place ↦ Err (Token place) | None ↦ said_from d.word 1 (lines_of text) ]) (cells_due d size)) (g.stands 0)
    ∙ ap (λ r. then_due r (cells_due d size)) (g.says 1)
    ∙ ap (λ n. then_due (cells_from d (labels_of g.saids) 1 first_place g.saids (replicate n None)) (λ cs. Ok (filled cs))) (sym len)
    ∙ ap (λ r. then_due r (λ cs. Ok (filled cs))) (g.gives (labels_of g.saids) 1 first_place [] refl)
    ∙ ap (λ cs. Ok cs) (filled-again cells)
