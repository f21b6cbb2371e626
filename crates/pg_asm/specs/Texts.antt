-- Images as text: the lines of their cells, and a source that gives them.
use Rattle.std.specs.Prelude.{ℕ, ◌+◌, ◌/◌, ◌==◌, if◌then◌else◌, List, [], ◌∷◌, ◌++◌, codes, Option, None, Some, slice_get}
use Rattle.std.specs.Fmt.{decimal}
use Rattle.pg_ast.specs.declared.tree.Desc.{Desc}
use Rattle.pg_ast.specs.declared.tree.Instr.{Instr}
use Rattle.pg_lang_meaning.specs.Patterns.{matching_number}
use Rattle.pg_text.specs.Printing.{hex_text}
use Rattle.pg_image.specs.Lines.{cells_text}
use Rattle.pg_asm.specs.declared.fields.LetterField.{LetterField}
use Rattle.pg_asm.specs.Words.{fields_of, value_in, kept_bits, pattern_of}

-- the line of a cell; left out where the cell is zero
abbrev pub cell_shown : ℕ → ℕ → ℕ → List ℕ
cell_shown w at cell = if cell == 0 then [] else cells_text w at (cell ∷ [])

-- the text of `asm`: cells from cell `at` on, a line `ADDR: WORD` for each that is not zero
unfoldable pub asm_text : ℕ → ℕ → List ℕ → List ℕ
asm_text w at [] = []
asm_text w at (cell ∷ cells) = cell_shown w at cell ++ asm_text w (at + 1) cells

-- ` f=V`
abbrev pub field_text : ℕ → LetterField → List ℕ
field_text word f = 32 ∷ f.letter ∷ 61 ∷ decimal (value_in word f)

-- ` f=V` for each field
unfoldable pub fields_text : ℕ → List LetterField → List ℕ
fields_text word [] = []
fields_text word (f ∷ fs) = field_text word f ++ fields_text word fs

-- `word H`
abbrev pub word_text : ℕ → ℕ → List ℕ
word_text w word = codes "word " ++ hex_text (w / 4) word

-- a word as the instruction of a number, where its free places are 0
abbrev pub instr_text : ℕ → ℕ → Instr → List ℕ
instr_text w word i =
    if kept_bits i.pattern.bytes word == word then i.name.bytes ++ fields_text word (fields_of i.pattern.bytes) else word_text w word

-- a word as a line of a source says it
abbrev pub said_text : Desc → ℕ → List ℕ
said_text d word =
    elim (matching_number d.instrs 0 word) [
      | Some k ↦ elim (slice_get d.instrs k) [ Some i ↦ instr_text d.word word i | None ↦ word_text d.word word ]
      | None ↦ word_text d.word word
    ]

-- `@ADDR`, and the word's line; left out where the cell is zero
abbrev pub cell_said : Desc → ℕ → ℕ → List ℕ
cell_said d at cell = if cell == 0 then [] else 64 ∷ decimal at ++ 10 ∷ said_text d cell ++ 10 ∷ []

-- a source that gives cells from cell `at` on
unfoldable pub source_text : Desc → ℕ → List ℕ → List ℕ
source_text d at [] = []
source_text d at (cell ∷ cells) = cell_said d at cell ++ source_text d (at + 1) cells
