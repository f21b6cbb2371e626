-- *SourceImage*: the image of a source, or its first fault.
use Rattle.std.specs.Prelude.{◌≡◌, ℕ, ◌+◌, Bool, true, false, not, ◌&&◌, ◌||◌, ◌==◌, nat_lt, if◌then◌else◌, List, [], ◌∷◌, ◌++◌, length, map, set, replicate, position, bytes_eq, slice_index, slice_get, Option, None, Some, unwrap_or, Result, Ok, Err}
use Rattle.std.specs.Option.{option_map}
use Rattle.pg_ast.specs.declared.tree.Desc.{Desc}
use Rattle.pg_lang_token.specs.Words.{is_word_byte}
use Rattle.pg_image.specs.Images.{lines_of, content, parts_of, is_gap}
use Rattle.pg_lang_valid.specs.Twice.{instr_names, is_among}
use Rattle.pg_asm.specs.declared.fault.AsmFault.{AsmFault}
use Rattle.pg_asm.specs.declared.fault.AsmFault.TheVariants.{Long, Token, Grammar, Name, Field, Label as LabelFault, Range, Place, Overlap, Memory}
use Rattle.pg_asm.specs.declared.mark.Mark.{Mark}
use Rattle.pg_asm.specs.declared.fields.LetterField.{LetterField}
use Rattle.pg_asm.specs.Words.{fields_of, fit, word_by, pattern_of}
use Rattle.pg_asm.specs.Said.{Value, Number, Named, Operand, Said, Blank, At, Label, Word, Instr, in_front, said_of}

-- ---- the text

-- the most bytes that a source has
abbrev pub most_source_bytes : ℕ
most_source_bytes = 1048576

-- what may stand in a line outside its comment: letters, digits, `_`, `=`, `:`, `@`, and what separates parts
abbrev pub may_stand : ℕ → Bool
may_stand c = is_word_byte c || (c == 61) || (c == 58) || (c == 64) || is_gap c

-- the place of the first byte outside comments that may not stand there, in lines of which the first begins at this place
unfoldable pub foreign_place : ℕ → List (List ℕ) → Option ℕ
foreign_place place [] = None
foreign_place place (line ∷ lines) =
    elim (position (λ c. not (may_stand c)) (content line)) [
      | Some k ↦ Some (place + k)
      | None ↦ foreign_place (place + length line + 1) lines
    ]

-- what line n says, in front of those behind it; a line of another form is a fault
abbrev pub with_line : ℕ → Option Said → Result (List Said) AsmFault → Result (List Said) AsmFault
with_line n None behind = Err (Grammar n)
with_line n (Some said) (Ok behind) = Ok (said ∷ behind)
with_line n (Some said) (Err fault) = Err fault

-- what lines say, of which the first is line n, or the first line of another form
unfoldable pub said_from : ℕ → ℕ → List (List ℕ) → Result (List Said) AsmFault
said_from w n [] = Ok []
said_from w n (line ∷ lines) = with_line n (said_of w (parts_of (content line))) (said_from w (n + 1) lines)

-- ---- places and labels

-- the place of the first word
abbrev pub first_place : ℕ
first_place = 2

-- the place of the next word, behind a line
abbrev pub place_behind : Said → ℕ → ℕ
place_behind Blank place = place
place_behind (At n) place = n
place_behind (Label name) place = place
place_behind (Word word) place = place + 1
place_behind (Instr name operands) place = place + 1

-- labels by their names, each with the line that gave it first, and the place that was reached there
pub record Labels : Type 0 where
  pub names : List (List ℕ)
  pub marks : List Mark

abbrev pub no_labels : Labels
no_labels = record { names = []; marks = [] }

-- a label more, unless an earlier line gave it
abbrev pub given : List ℕ → ℕ → ℕ → Labels → Labels
given name n place labels =
    if is_among labels.names name then labels
    else record { names = labels.names ++ name ∷ []; marks = labels.marks ++ (record { line = n; place = place }) ∷ [] }

abbrev pub labels_behind : Said → ℕ → ℕ → Labels → Labels
labels_behind Blank n place labels = labels
labels_behind (At k) n place labels = labels
labels_behind (Label name) n place labels = given name n place labels
labels_behind (Word word) n place labels = labels
labels_behind (Instr name operands) n place labels = labels

-- the labels of lines, of which the first is line n and begins at this place, behind other labels
unfoldable pub labels_from : ℕ → ℕ → Labels → List Said → Labels
labels_from n place labels [] = labels
labels_from n place labels (said ∷ behind) = labels_from (n + 1) (place_behind said place) (labels_behind said n place labels) behind

abbrev pub labels_of : List Said → Labels
labels_of saids = labels_from 1 first_place no_labels saids

-- the line that gave a label first, and its place
abbrev pub mark_of : Labels → List ℕ → Option Mark
mark_of labels name = elim (position (λ n. bytes_eq n name) labels.names) [ Some k ↦ slice_get labels.marks k | None ↦ None ]

-- ---- words

-- the number that a value stands for
abbrev pub number_of : Labels → Value → Option ℕ
number_of labels (Number v) = Some v
number_of labels (Named name) = option_map (λ (m : Mark). m.place) (mark_of labels name)

-- the numbers of values; `None` where one is a label that no line gives
unfoldable pub numbers_of : Labels → List Operand → Option (List ℕ)
numbers_of labels [] = Some []
numbers_of labels (o ∷ os) = in_front (number_of labels o.value) (numbers_of labels os)

-- the operands are for these fields, each once, in this order
unfoldable pub same_letters : List LetterField → List Operand → Bool
same_letters [] [] = true
same_letters [] (o ∷ os) = false
same_letters (f ∷ fs) [] = false
same_letters (f ∷ fs) (o ∷ os) = (f.letter == o.letter) && same_letters fs os

-- the word of a pattern and these values on line n, or what is wrong with them
abbrev pub fitted : ℕ → List ℕ → Option (List ℕ) → Result ℕ AsmFault
fitted n pattern None = Err (LabelFault n)
fitted n pattern (Some values) = if fit (fields_of pattern) values then Ok (word_by pattern values) else Err (Range n)

-- the operands have to be for the pattern's fields, each once, from the highest
abbrev pub encoded : Labels → ℕ → List ℕ → List Operand → Result ℕ AsmFault
encoded labels n pattern operands =
    if same_letters (fields_of pattern) operands then fitted n pattern (numbers_of labels operands) else Err (Field n)

-- the word of an instruction on line n, or what is wrong with it: Name, Field, Label, Range
abbrev pub instr_word : Desc → Labels → ℕ → List ℕ → List Operand → Result ℕ AsmFault
instr_word d labels n name operands =
    elim (position (λ m. bytes_eq m name) (instr_names d.instrs)) [
      | Some k ↦ encoded labels n (pattern_of d.instrs k) operands
      | None ↦ Err (Name n)
    ]

-- ---- cells

-- cells, and which of them are given: none at first
abbrev pub none_given : ℕ → List (Option ℕ)
none_given size = replicate size None

-- the word of line n put at a place, or what is wrong with it there: Place, Overlap
abbrev pub put_word : ℕ → ℕ → List (Option ℕ) → Result ℕ AsmFault → Result (List (Option ℕ)) AsmFault
put_word n place cells (Err fault) = Err fault
put_word n place cells (Ok word) =
    elim (slice_get cells place) [
      | None ↦ Err (Place n)
      | Some None ↦ Ok (set cells place (Some word))
      | Some (Some earlier) ↦ Err (Overlap n)
    ]

-- a label that an earlier line gave is a fault
abbrev pub keep_cells : ℕ → List (Option ℕ) → Option Mark → Result (List (Option ℕ)) AsmFault
keep_cells n cells None = Err (LabelFault n)
keep_cells n cells (Some first) = if first.line == n then Ok cells else Err (LabelFault n)

-- the cells behind line n, or what is wrong with it
abbrev pub cells_behind : Desc → Labels → ℕ → ℕ → List (Option ℕ) → Said → Result (List (Option ℕ)) AsmFault
cells_behind d labels n place cells Blank = Ok cells
cells_behind d labels n place cells (At k) = Ok cells
cells_behind d labels n place cells (Label name) = keep_cells n cells (mark_of labels name)
cells_behind d labels n place cells (Word word) = put_word n place cells (Ok word)
cells_behind d labels n place cells (Instr name operands) = put_word n place cells (instr_word d labels n name operands)

-- a step, and then another one with what it gave
abbrev pub then_due : {X Y : Type 0} → Result X AsmFault → (X → Result Y AsmFault) → Result Y AsmFault
then_due (Ok x) go = go x
then_due (Err fault) go = Err fault

-- the cells behind lines, of which the first is line n and begins at this place, or the first fault
unfoldable pub cells_from : Desc → Labels → ℕ → ℕ → List Said → List (Option ℕ) → Result (List (Option ℕ)) AsmFault
cells_from d labels n place [] cells = Ok cells
cells_from d labels n place (said ∷ behind) cells =
    then_due (cells_behind d labels n place cells said) (cells_from d labels (n + 1) (place_behind said place) behind)

-- a cell that is not given is zero
abbrev pub filled : List (Option ℕ) → List ℕ
filled cells = map (λ cell. unwrap_or cell 0) cells

-- ---- the source

-- what the lines of a text say: first each byte has to be one that may stand where it does
abbrev pub lines_due : ℕ → List ℕ → Result (List Said) AsmFault
lines_due w text =
    elim (foreign_place 0 (lines_of text)) [
      | Some place ↦ Err (Token place)
      | None ↦ said_from w 1 (lines_of text)
    ]

-- the cells of lines
abbrev pub cells_due : Desc → ℕ → List Said → Result (List ℕ) AsmFault
cells_due d size saids =
    then_due (cells_from d (labels_of saids) 1 first_place saids (none_given size)) (λ cells. Ok (filled cells))

-- *SourceImage*: the cells of a source, for a storage of so many cells, or its first fault
unfoldable pub source_due : Desc → ℕ → List ℕ → Result (List ℕ) AsmFault
source_due d size text = if nat_lt most_source_bytes (length text) then Err Long else then_due (lines_due d.word text) (cells_due d size)

-- what a call answers is what is due, unless memory ran out
abbrev pub IsSourceDue : {X : Type 0} → Result X AsmFault → Result X AsmFault → Type 0
IsSourceDue (Ok x) due = due ≡ Ok x
IsSourceDue (Err Memory) due = Unit {0}
IsSourceDue (Err Long) due = due ≡ Err Long
IsSourceDue (Err (Token place)) due = due ≡ Err (Token place)
IsSourceDue (Err (Grammar line)) due = due ≡ Err (Grammar line)
IsSourceDue (Err (Name line)) due = due ≡ Err (Name line)
IsSourceDue (Err (Field line)) due = due ≡ Err (Field line)
IsSourceDue (Err (LabelFault line)) due = due ≡ Err (LabelFault line)
IsSourceDue (Err (Range line)) due = due ≡ Err (Range line)
IsSourceDue (Err (Place line)) due = due ≡ Err (Place line)
IsSourceDue (Err (Overlap line)) due = due ≡ Err (Overlap line)
