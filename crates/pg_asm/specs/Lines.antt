-- A line of a source as code has it: what it names is still text.
use Rattle.std.specs.Prelude.{◌≡◌, ℕ, ◌<◌, ◌^◌, List, [], Option, None, Some, unwrap_or, IsTrue}
use Rattle.pg_lang_token.specs.Words.{is_name}
use Rattle.pg_image.specs.Images.{parts_of}
use Rattle.pg_asm.specs.declared.line.InstrText.{InstrText}
use Rattle.pg_asm.specs.declared.line.Line.{Line}
use Rattle.pg_asm.specs.declared.line.Line.TheVariants as line
use Rattle.pg_asm.specs.Said.{Operand, Said, Blank, At, Label, Word, Instr, operands_said}

-- the operands that a text says
abbrev pub operands_in : List ℕ → List Operand
operands_in text = unwrap_or (operands_said (parts_of text)) []

-- a text says operands
abbrev pub SaysOperands : List ℕ → Type 0
SaysOperands text = operands_said (parts_of text) ≡ Some (operands_in text)

-- what a line says
abbrev pub said_as : Line → Said
said_as line.Blank = Blank
said_as (line.At n) = At n
said_as (line.Label name) = Label name.now
said_as (line.Word word) = Word word
said_as (line.Instr t) = Instr t.name.now (operands_in t.operands.now)

-- the name and the operands of an instruction's line
pub record IsInstrText (t : InstrText) : Type 0 where
  pub name : IsTrue (is_name t.name.now)
  pub operands : SaysOperands t.operands.now

-- a place has few digits, a word w bits, and an instruction a name and operands
abbrev pub IsFormed : ℕ → Line → Type 0
IsFormed w line.Blank = Unit {0}
IsFormed w (line.At n) = n < 10 ^ 7
IsFormed w (line.Label name) = Unit {0}
IsFormed w (line.Word word) = word < 2 ^ w
IsFormed w (line.Instr t) = IsInstrText t

-- a line says so; there is none where it has no form
abbrev pub IsLineOf : ℕ → Option Said → Option Line → Type 0
IsLineOf w said None = said ≡ None
IsLineOf w said (Some l) = (said ≡ Some (said_as l)) × IsFormed w l
