-- Operands, as the code goes over their parts.
use Rattle.std.proofs.Common.{◌≡◌, ℕ, suc, ◌+◌, ◌<◌, ◌≤◌, Bool, true, false, ◌&&◌, ◌==◌, if◌then◌else◌, List, [], ◌∷◌, ◌++◌, length, drop, get_or, Option, None, Some, unwrap_or, refl, ap, sym, ◌∙◌, arith}
use Rattle.std.specs.Prelude.{nat_le, slice_index}
use Rattle.std.specs.Option.{option_map}
use Rattle.std.proofs.lemmas.Bool.{and_parts, leb-true, eq-eqb, ne_eqb}
use Rattle.std.proofs.lemmas.List.{append_assoc, append-nil, drop_more, drop_all, length-drop}
use Rattle.pg_lang_token.specs.Words.{is_name}
use Rattle.pg_text.specs.Cutting.{dec_number}
use Rattle.pg_image.specs.Images.{parts_of}
use Rattle.pg_lang_valid.specs.Overlaps.{is_field_letter}
use Rattle.pg_asm.specs.declared.mark.Mark.{Mark}
use Rattle.pg_asm.specs.declared.fields.LetterField.{LetterField}
use Rattle.pg_asm.specs.Said.{Value, Number, Named, Operand, value_said, begins_operand, operand_said, in_front, operands_said}
use Rattle.pg_asm.specs.Lines.{operands_in, SaysOperands}
use Rattle.pg_asm.specs.Sources.{Labels, mark_of, number_of, numbers_of, same_letters}

-- ---- one operand

pub record IsOperand (part : List ℕ) (o : Operand) : Type 0 where
  pub long : 2 ≤ length part
  pub letter : o.letter ≡ get_or part 0 0
  pub value : value_said (drop 2 part) ≡ Some o.value

pub operand-parts : (part : List ℕ) (o : Operand) → operand_said part ≡ Some o → IsOperand part o
operand-parts part o h = by (begins_operand part) (value_said (drop 2 part)) refl refl h
  where
    by : (b : Bool) (v : Option Value) → begins_operand part ≡ b → value_said (drop 2 part) ≡ v →
        (if b then option_map (λ (x : Value). let y : Operand = record { letter = slice_index part 0; value = x } in y) v else None) ≡ Some o → IsOperand part o
    by true (Some v) b e h =
        let same : (let y : Operand = record { letter = slice_index part 0; value = v } in y) ≡ o = cc h in
        let long = and_parts (nat_le 2 (length part) && is_field_letter (slice_index part 0)) (slice_index part 1 == 61) b in
        let two = and_parts (nat_le 2 (length part)) (is_field_letter (slice_index part 0)) long.0 in
        record {
          long = leb-true 2 (length part) two.0;
          letter = sym (ap (λ (x : Operand). x.letter) same);
          value = e ∙ ap (λ (x : Operand). Some x.value) same;
        }
    by true None b e h = absurd (cc h)
    by false v b e h = absurd (cc h)

-- the number of a value, by its text
pub number-digits : (labels : Labels) (text : List ℕ) (v : ℕ) (value : Value) → Some v ≡ dec_number text → value_said text ≡ Some value → Some v ≡ number_of labels value
number-digits labels text v value digits said =
    let here : value_said text ≡ Some (Number v) = ap (λ o. elim o [ Some n ↦ Some (Number n) | None ↦ if is_name text then Some (Named text) else None ]) (sym digits) in
    let same : Number v ≡ value = cc (sym here ∙ said) in
    ap (number_of labels) same

named : (text : List ℕ) (b : Bool) (value : Value) → (if b then Some (Named text) else None) ≡ Some value → Named text ≡ value
named text true value h = cc h
named text false value h = absurd (cc h)

pub number-name : (labels : Labels) (text : List ℕ) (value : Value) → None ≡ dec_number text → value_said text ≡ Some value →
    option_map (λ (m : Mark). m.place) (mark_of labels text) ≡ number_of labels value
number-name labels text value digits said =
    let here : value_said text ≡ (if is_name text then Some (Named text) else None) = ap (λ o. elim o [ Some n ↦ Some (Number n) | None ↦ if is_name text then Some (Named text) else None ]) (sym digits) in
    ap (number_of labels) (named text (is_name text) value (sym here ∙ said))

-- ---- operands in a row

pub record Parted (left rest part : List ℕ) : Type 0 where
  pub operand : Operand
  pub here : IsOperand part operand
  pub whole : operands_in left ≡ operand ∷ operands_in rest
  pub says : SaysOperands rest

pub parted : (left rest part : List ℕ) → parts_of left ≡ part ∷ parts_of rest → SaysOperands left → Parted left rest part
unfolding operands_said
parted left rest part cut says = by (operand_said part) (operands_said (parts_of rest)) refl refl (sym (ap operands_said cut) ∙ says)
  where
    by : (x : Option Operand) (xs : Option (List Operand)) → operand_said part ≡ x → operands_said (parts_of rest) ≡ xs → in_front x xs ≡ Some (operands_in left) → Parted left rest part
    by None xs e f h = absurd (cc h)
    by (Some x) None e f h = absurd (cc h)
    by (Some x) (Some xs) e f h =
        let all : x ∷ xs ≡ operands_in left = cc h in
        let behind : operands_in rest ≡ xs = ap (λ os. unwrap_or os []) f in
        record { operand = x; here = operand-parts part x e; whole = sym all ∙ ap (λ os. x ∷ os) (sym behind); says = f ∙ ap (λ os. Some os) (sym behind) }

pub none-said : (left : List ℕ) → parts_of left ≡ [] → operands_in left ≡ []
unfolding operands_said
none-said left none = ap (λ ps. unwrap_or (operands_said ps) []) none

counted : (parts : List (List ℕ)) (os : List Operand) → operands_said parts ≡ Some os → length os ≡ length parts
unfolding operands_said
counted [] os h = let e : [] ≡ os = cc h in ap length (sym e)
counted (part ∷ parts) os h = by (operand_said part) (operands_said parts) refl h (λ xs e. counted parts xs e)
  where
    by : (x : Option Operand) (xs : Option (List Operand)) → operands_said parts ≡ xs → in_front x xs ≡ Some os →
        ((ys : List Operand) → operands_said parts ≡ Some ys → length ys ≡ length parts) → length os ≡ suc (length parts)
    by None xs e h ih = absurd (cc h)
    by (Some x) None e h ih = absurd (cc h)
    by (Some x) (Some xs) e h ih = let all : x ∷ xs ≡ os = cc h in omega (arith, ap length all, ih xs e)

-- there are as many operands as parts
pub operands-count : (text : List ℕ) → SaysOperands text → length (operands_in text) ≡ length (parts_of text)
operands-count text says = counted (parts_of text) (operands_in text) says

-- ---- numbers

kept : (xs : Option (List ℕ)) → option_map (λ vs. [] ++ vs) xs ≡ xs
kept None = refl
kept (Some vs) = refl

pub numbers-begin : (labels : Labels) (text : List ℕ) → option_map (λ vs. [] ++ vs) (numbers_of labels (operands_in text)) ≡ numbers_of labels (operands_in text)
numbers-begin labels text = kept (numbers_of labels (operands_in text))

pushed : (old : List ℕ) (v : ℕ) (xs : Option (List ℕ)) → option_map (λ vs. (old ++ v ∷ []) ++ vs) xs ≡ option_map (λ vs. old ++ vs) (in_front (Some v) xs)
pushed old v None = refl
pushed old v (Some vs) = ap (λ l. Some l) (append_assoc old (v ∷ []) vs)

pub numbers-more : (labels : Labels) (old new : List ℕ) (v : ℕ) (o : Operand) (left rest : List ℕ) (whole : Option (List ℕ)) → operands_in left ≡ o ∷ operands_in rest →
    Some v ≡ number_of labels o.value → new ≡ old ++ v ∷ [] → option_map (λ vs. old ++ vs) (numbers_of labels (operands_in left)) ≡ whole →
    option_map (λ vs. new ++ vs) (numbers_of labels (operands_in rest)) ≡ whole
unfolding numbers_of
numbers-more labels old new v o left rest whole cut number push so_far =
    ap (λ ns. option_map (λ vs. ns ++ vs) (numbers_of labels (operands_in rest))) push
    ∙ pushed old v (numbers_of labels (operands_in rest))
    ∙ ap (λ x. option_map (λ vs. old ++ vs) (in_front x (numbers_of labels (operands_in rest)))) number
    ∙ sym (ap (λ os. option_map (λ vs. old ++ vs) (numbers_of labels os)) cut) ∙ so_far

pub numbers-none : (labels : Labels) (old : List ℕ) (o : Operand) (left rest : List ℕ) (whole : Option (List ℕ)) → operands_in left ≡ o ∷ operands_in rest →
    None ≡ number_of labels o.value → option_map (λ vs. old ++ vs) (numbers_of labels (operands_in left)) ≡ whole → None ≡ whole
unfolding numbers_of
numbers-none labels old o left rest whole cut none so_far =
    ap (λ x. option_map (λ vs. old ++ vs) (in_front x (numbers_of labels (operands_in rest)))) none
    ∙ sym (ap (λ os. option_map (λ vs. old ++ vs) (numbers_of labels os)) cut) ∙ so_far

pub numbers-end : (labels : Labels) (old left : List ℕ) (whole : Option (List ℕ)) → parts_of left ≡ [] →
    option_map (λ vs. old ++ vs) (numbers_of labels (operands_in left)) ≡ whole → Some old ≡ whole
unfolding numbers_of
numbers-end labels old left whole none so_far =
    ap (λ l. Some l) (sym (append-nil old))
    ∙ sym (ap (λ os. option_map (λ vs. old ++ vs) (numbers_of labels os)) (none-said left none)) ∙ so_far

-- ---- letters

pub letters-behind : (fs : List LetterField) (k : ℕ) (o : Operand) (left rest : List ℕ) (whole : Bool) → length fs ≤ k → operands_in left ≡ o ∷ operands_in rest →
    same_letters (drop k fs) (operands_in left) ≡ whole → false ≡ whole
unfolding same_letters
letters-behind fs k o left rest whole all cut so_far =
    sym (ap (λ xs. same_letters xs (o ∷ operands_in rest)) (drop_all k fs all)) ∙ sym (ap (same_letters (drop k fs)) cut) ∙ so_far

pub letters-at : (fs : List LetterField) (k : ℕ) (d : LetterField) (o : Operand) (left rest : List ℕ) → k < length fs → operands_in left ≡ o ∷ operands_in rest →
    same_letters (drop k fs) (operands_in left) ≡ (((get_or fs k d).letter == o.letter) && same_letters (drop (k + 1) fs) (operands_in rest))
unfolding same_letters
letters-at fs k d o left rest within cut =
    ap (same_letters (drop k fs)) cut ∙ ap (λ xs. same_letters xs (o ∷ operands_in rest)) (drop_more fs k d within)

pub letters-end : (fs : List LetterField) (k : ℕ) (left : List ℕ) (whole : Bool) → k ≤ length fs → parts_of left ≡ [] →
    same_letters (drop k fs) (operands_in left) ≡ whole → (k == length fs) ≡ whole
unfolding same_letters
letters-end fs k left whole within none so_far =
    by (drop k fs) refl ∙ sym (ap (same_letters (drop k fs)) (none-said left none)) ∙ so_far
  where
    by : (xs : List LetterField) → drop k fs ≡ xs → (k == length fs) ≡ same_letters xs []
    by [] e = let all : length fs ≤ k = omega (arith, ap length e, length-drop k fs) in eq-eqb k (length fs) (omega arith)
    by (x ∷ xs) e = let some : k < length fs = omega (arith, ap length e, length-drop k fs) in ne_eqb k (length fs) (omega arith)

-- operands for fields are as many as these
pub letters-count : (fs : List LetterField) (os : List Operand) → same_letters fs os ≡ true → length os ≡ length fs
unfolding same_letters
letters-count [] [] h = refl
letters-count [] (o ∷ os) h = absurd (cc h)
letters-count (f ∷ fs) [] h = absurd (cc h)
letters-count (f ∷ fs) (o ∷ os) h =
    let both = and_parts (f.letter == o.letter) (same_letters fs os) h in
    omega (arith, letters-count fs os both.1)

pub letters-other : (fs : List LetterField) (k : ℕ) (d : LetterField) (o : Operand) (left rest part : List ℕ) (whole : Bool) → k < length fs → operands_in left ≡ o ∷ operands_in rest →
    o.letter ≡ get_or part 0 0 → ((get_or fs k d).letter ≡ get_or part 0 0 → ⊥) → same_letters (drop k fs) (operands_in left) ≡ whole → false ≡ whole
letters-other fs k d o left rest part whole within cut letter other so_far =
    let differs : ((get_or fs k d).letter == o.letter) ≡ false = ne_eqb (get_or fs k d).letter o.letter (λ e. other (e ∙ letter)) in
    sym (ap (λ b. b && same_letters (drop (k + 1) fs) (operands_in rest)) differs) ∙ sym (letters-at fs k d o left rest within cut) ∙ so_far

pub letters-more : (fs : List LetterField) (k : ℕ) (d : LetterField) (o : Operand) (left rest part : List ℕ) (whole : Bool) → k < length fs → operands_in left ≡ o ∷ operands_in rest →
    o.letter ≡ get_or part 0 0 → (get_or fs k d).letter ≡ get_or part 0 0 → same_letters (drop k fs) (operands_in left) ≡ whole → same_letters (drop (k + 1) fs) (operands_in rest) ≡ whole
letters-more fs k d o left rest part whole within cut letter same so_far =
    let agrees : ((get_or fs k d).letter == o.letter) ≡ true = eq-eqb (get_or fs k d).letter o.letter (same ∙ sym letter) in
    sym (ap (λ b. b && same_letters (drop (k + 1) fs) (operands_in rest)) agrees) ∙ sym (letters-at fs k d o left rest within cut) ∙ so_far
