-- What a source means by the places of its lines: the word of each cell, or the first thing that is wrong. `Sources` says it as it is read.
use Rattle.std.specs.Prelude.{◌≡◌, ℕ, zero, suc, ◌+◌, ◌<◌, ◌≤◌, ◌⊎◌, ◌↔◌, Bool, true, false, List, [], ◌∷◌, ◌++◌, length, map, take, filter, slice_get, Some, None}
use Rattle.std.specs.List.{AllByRecursion, AllZip}
use Rattle.pg_ast.specs.declared.tree.Instr.{Instr as Instruction}
use Rattle.pg_ast.specs.declared.tree.Desc.{Desc}
use Rattle.pg_image.specs.Images.{lines_of, content, parts_of}
use Rattle.pg_asm.specs.declared.fault.AsmFault.{AsmFault}
use Rattle.pg_asm.specs.declared.fault.AsmFault.TheVariants.{Long, Token, Grammar, Name, Field, Label as LabelFault, Range, Place, Overlap, Memory}
use Rattle.pg_asm.specs.Words.{fields_of, fit, IsWordOf}
use Rattle.pg_asm.specs.Said.{Value, Number, Named, Operand, Said, Blank, At, Label, Word, Instr, said_of}
use Rattle.pg_asm.specs.Sources.{most_source_bytes, may_stand, first_place}

-- ---- lines and places

-- what the lines of a text say, by their numbers from 1 on. Line 0, which nobody writes, says `@2`
abbrev pub AreLines : ℕ → List ℕ → List Said → Type 0
AreLines w text lines = map Some lines ≡ Some (At first_place) ∷ map (λ line. said_of w (parts_of (content line))) (lines_of text)

-- line n says this
abbrev pub IsLine : List Said → ℕ → Said → Type 0
IsLine lines n said = slice_get lines n ≡ Some said

-- whether a line is `@k`
abbrev pub sets_place : Said → Bool
sets_place Blank = false
sets_place (At k) = true
sets_place (Label name) = false
sets_place (Word word) = false
sets_place (Instr name operands) = false

-- whether a line takes a place: it says a word, or an instruction
abbrev pub takes_place : Said → Bool
takes_place Blank = false
takes_place (At k) = false
takes_place (Label name) = false
takes_place (Word word) = true
takes_place (Instr name operands) = true

-- line n stands at a place: the last `@k` before it says k, and each line since that takes a place counts one
pub record StandsAt (lines : List Said) (n place : ℕ) : Type 0 where
  pub front : List Said
  pub k : ℕ
  pub since : List Said
  pub before : take n lines ≡ front ++ At k ∷ since
  pub last : AllByRecursion (λ said. sets_place said ≡ false) since
  pub counted : k + length (filter takes_place since) ≡ place

-- line n takes a place: that at which it stands
pub record Takes (lines : List Said) (n place : ℕ) : Type 0 where
  pub said : Said
  pub line : IsLine lines n said
  pub takes : takes_place said ≡ true
  pub stands : StandsAt lines n place

-- ---- words

-- a label means the place of the first line that gives it
pub record Means (lines : List Said) (name : List ℕ) (place : ℕ) : Type 0 where
  pub n : ℕ
  pub line : IsLine lines n (Label name)
  pub first : (m : ℕ) → m < n → IsLine lines m (Label name) → ⊥
  pub stands : StandsAt lines n place

-- the number that a value stands for
abbrev pub StandsFor : List Said → Value → ℕ → Type 0
StandsFor lines (Number v) number = v ≡ number
StandsFor lines (Named name) number = Means lines name number

-- the numbers of operands, in their order
abbrev pub StandFor : List Said → List Operand → List ℕ → Type 0
StandFor lines operands numbers = AllZip (λ (o : Operand) number. StandsFor lines o.value number) operands numbers

-- an instruction of the description has this name
pub record IsNamed (d : Desc) (name : List ℕ) (i : Instruction) : Type 0 where
  pub k : ℕ
  pub there : slice_get d.instrs k ≡ Some i
  pub same : i.name.bytes ≡ name

-- the operands are for the instruction's fields, each once, from the highest
abbrev pub AreForFields : Instruction → List Operand → Type 0
AreForFields i operands = map (λ f. f.letter) (fields_of i.pattern.bytes) ≡ map (λ o. o.letter) operands

-- an instruction's line says the word of the instruction and of the numbers that its values stand for
pub record SaysInstr (d : Desc) (lines : List Said) (name : List ℕ) (operands : List Operand) (word : ℕ) : Type 0 where
  pub instr : Instruction
  pub named : IsNamed d name instr
  pub fields : AreForFields instr operands
  pub numbers : List ℕ
  pub stand : StandFor lines operands numbers
  pub is : IsWordOf instr.pattern.bytes numbers word

-- the word that a line says
abbrev pub SaysWord : Desc → List Said → Said → ℕ → Type 0
SaysWord d lines Blank word = ⊥
SaysWord d lines (At k) word = ⊥
SaysWord d lines (Label name) word = ⊥
SaysWord d lines (Word x) word = x ≡ word
SaysWord d lines (Instr name operands) word = SaysInstr d lines name operands word

-- ---- the image

-- a line at a place says a word
pub record IsPlaced (d : Desc) (lines : List Said) (place word : ℕ) : Type 0 where
  pub n : ℕ
  pub said : Said
  pub line : IsLine lines n said
  pub stands : StandsAt lines n place
  pub says : SaysWord d lines said word

-- no line takes a place
abbrev pub IsGap : List Said → ℕ → Type 0
IsGap lines place = (n : ℕ) → Takes lines n place → ⊥

-- a word is a cell's: a line at its place says it, or no line takes its place and it is zero
abbrev pub IsCell : Desc → List Said → ℕ → ℕ → Type 0
IsCell d lines place word = IsPlaced d lines place word ⊎ (IsGap lines place × (word ≡ 0))

-- the cells of an image; each place that a line takes is one of them, and no two lines take one
pub record IsImageOf (d : Desc) (size : ℕ) (lines : List Said) (cells : List ℕ) : Type 0 where
  pub len : length cells ≡ size
  pub cell : (a w : ℕ) → slice_get cells a ≡ Some w ↔ ((a < size) × IsCell d lines a w)
  pub within : (n a : ℕ) → Takes lines n a → a < size
  pub once : (m n a : ℕ) → Takes lines m a → Takes lines n a → m ≡ n

-- ---- faults

-- the place of a text at which line i begins, the first being line 0
abbrev pub begin_of : List (List ℕ) → ℕ → ℕ
begin_of [] i = 0
begin_of (line ∷ lines) zero = 0
begin_of (line ∷ lines) (suc i) = length line + 1 + begin_of lines i

-- at a place of the text stands a byte outside comments that may not stand there
pub record IsForeign (text : List ℕ) (place : ℕ) : Type 0 where
  pub i : ℕ
  pub line : List ℕ
  pub there : slice_get (lines_of text) i ≡ Some line
  pub k : ℕ
  pub byte : ℕ
  pub stands : slice_get (content line) k ≡ Some byte
  pub foreign : may_stand byte ≡ false
  pub counted : begin_of (lines_of text) i + k ≡ place

-- line n of the text has none of the forms of lines
pub record HasNoForm (w : ℕ) (text : List ℕ) (n : ℕ) : Type 0 where
  pub i : ℕ
  pub line : List ℕ
  pub there : slice_get (lines_of text) i ≡ Some line
  pub number : i + 1 ≡ n
  pub none : said_of w (parts_of (content line)) ≡ None

-- line n is an instruction's
pub record IsInstrLine (lines : List Said) (n : ℕ) : Type 0 where
  pub name : List ℕ
  pub operands : List Operand
  pub line : IsLine lines n (Instr name operands)

-- it names no instruction
pub record NamesNone (d : Desc) (lines : List Said) (n : ℕ) : Type 0 where
  pub at : IsInstrLine lines n
  pub none : (i : Instruction) → IsNamed d at.name i → ⊥

-- it gives other fields than those of the instruction that it names
pub record GivesOthers (d : Desc) (lines : List Said) (n : ℕ) : Type 0 where
  pub at : IsInstrLine lines n
  pub instr : Instruction
  pub named : IsNamed d at.name instr
  pub others : AreForFields instr at.operands → ⊥

-- it uses a label that no line gives
pub record UsesNone (lines : List Said) (n : ℕ) : Type 0 where
  pub at : IsInstrLine lines n
  pub k : ℕ
  pub operand : Operand
  pub there : slice_get at.operands k ≡ Some operand
  pub name : List ℕ
  pub uses : operand.value ≡ Named name
  pub none : (m : ℕ) → IsLine lines m (Label name) → ⊥

-- line n gives a label that an earlier line gave
pub record GivesAgain (lines : List Said) (n : ℕ) : Type 0 where
  pub name : List ℕ
  pub line : IsLine lines n (Label name)
  pub m : ℕ
  pub before : m < n
  pub earlier : IsLine lines m (Label name)

-- the numbers that the values of an instruction's line stand for do not fit its fields
pub record DoesNotFit (d : Desc) (lines : List Said) (n : ℕ) : Type 0 where
  pub at : IsInstrLine lines n
  pub instr : Instruction
  pub named : IsNamed d at.name instr
  pub fields : AreForFields instr at.operands
  pub numbers : List ℕ
  pub stand : StandFor lines at.operands numbers
  pub unfit : fit (fields_of instr.pattern.bytes) numbers ≡ false

-- line n takes a place at the size or past it
pub record PassesSize (size : ℕ) (lines : List Said) (n : ℕ) : Type 0 where
  pub place : ℕ
  pub takes : Takes lines n place
  pub past : size ≤ place

-- line n takes a place that an earlier line takes
pub record TakesAgain (lines : List Said) (n : ℕ) : Type 0 where
  pub place : ℕ
  pub takes : Takes lines n place
  pub m : ℕ
  pub before : m < n
  pub earlier : Takes lines m place

-- the lines of a text, each of which has a form, are such
abbrev pub HasLines : ℕ → List ℕ → (List Said → Type 0) → Type 0
HasLines w text P = (lines : List Said) × AreLines w text lines × P lines

-- a fault is there
abbrev pub IsFault : Desc → ℕ → List ℕ → AsmFault → Type 0
IsFault d size text Long = most_source_bytes < length text
IsFault d size text (Token place) = IsForeign text place
IsFault d size text (Grammar n) = HasNoForm d.word text n
IsFault d size text (Name n) = HasLines d.word text (λ lines. NamesNone d lines n)
IsFault d size text (Field n) = HasLines d.word text (λ lines. GivesOthers d lines n)
IsFault d size text (LabelFault n) = HasLines d.word text (λ lines. UsesNone lines n ⊎ GivesAgain lines n)
IsFault d size text (Range n) = HasLines d.word text (λ lines. DoesNotFit d lines n)
IsFault d size text (Place n) = HasLines d.word text (λ lines. PassesSize size lines n)
IsFault d size text (Overlap n) = HasLines d.word text (λ lines. TakesAgain lines n)
IsFault d size text Memory = ⊥

-- ---- their order

-- where a fault comes: `Long`, `Token`, `Grammar`, then the others; of these the earlier place of the text, or line; and on one line these in turn
abbrev pub order_of : AsmFault → ℕ × ℕ × ℕ
order_of Long = (0, 0, 0)
order_of (Token place) = (1, place, 0)
order_of (Grammar n) = (2, n, 0)
order_of (Name n) = (3, n, 0)
order_of (Field n) = (3, n, 1)
order_of (LabelFault n) = (3, n, 2)
order_of (Range n) = (3, n, 3)
order_of (Place n) = (3, n, 4)
order_of (Overlap n) = (3, n, 5)
order_of Memory = (4, 0, 0)

abbrev pub stage_of : AsmFault → ℕ
stage_of fault = (order_of fault).0

abbrev pub spot_of : AsmFault → ℕ
spot_of fault = (order_of fault).1

abbrev pub turn_of : AsmFault → ℕ
turn_of fault = (order_of fault).2

-- one fault comes before another: in an earlier stage, or in one stage at an earlier spot, or at one spot in an earlier turn
abbrev pub ComesBefore : AsmFault → AsmFault → Type 0
ComesBefore g f =
    (stage_of g < stage_of f)
    ⊎ ((stage_of g ≡ stage_of f) × (spot_of g < spot_of f))
    ⊎ ((stage_of g ≡ stage_of f) × (spot_of g ≡ spot_of f) × (turn_of g < turn_of f))

-- ---- the law

-- a text is assembled to an image: no fault is there, and its cells are those of its lines
pub record IsAssembled (d : Desc) (size : ℕ) (text cells : List ℕ) : Type 0 where
  pub lines : List Said
  pub are : AreLines d.word text lines
  pub image : IsImageOf d size lines cells
  pub faultless : (fault : AsmFault) → IsFault d size text fault → ⊥

-- a text is refused: a fault is there, and none that comes before it
pub record IsRefused (d : Desc) (size : ℕ) (text : List ℕ) (fault : AsmFault) : Type 0 where
  pub there : IsFault d size text fault
  pub first : (other : AsmFault) → IsFault d size text other → ComesBefore other fault → ⊥
