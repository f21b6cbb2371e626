-- The lines of a state text, and the text of a state. Every line ends with LF; numbers are decimal.
use Rattle.std.specs.Prelude.{ℕ, zero, suc, ◌+◌, ◌-◌, ◌*◌, ◌/◌, ◌==◌, if◌then◌else◌, List, [], ◌∷◌, ◌++◌, length, take, drop, codes}
use Rattle.std.specs.Fmt.{decimal}
use Rattle.std.specs.List.{list_all}
use Rattle.pg_word.specs.declared.psw.Psw.{Psw}
use Rattle.pg_word.specs.declared.psw.Mode.{Mode}
use Rattle.pg_word.specs.declared.psw.Mode.TheVariants.{S, U}
use Rattle.pg_text.specs.Printing.{hex_text}

-- `size N`
unfoldable pub size_text : ℕ → List ℕ
size_text n = codes "size " ++ decimal n ++ 10 ∷ []

abbrev pub mode_text : Mode → List ℕ
mode_text S = codes "s"
mode_text U = codes "u"

-- `psw M P L B`
unfoldable pub psw_text : Psw → List ℕ
psw_text x = codes "psw " ++ mode_text x.mode ++ 32 ∷ decimal x.p ++ 32 ∷ decimal x.l ++ 32 ∷ decimal x.b ++ 10 ∷ []

-- words of w bits, a space before each
unfoldable pub words_text : ℕ → List ℕ → List ℕ
words_text w [] = []
words_text w (word ∷ words) = 32 ∷ hex_text (w / 4) word ++ words_text w words

-- `K: ` and words from cell K on, with one space between
unfoldable pub cells_text : ℕ → ℕ → List ℕ → List ℕ
cells_text w first words = decimal first ++ 58 ∷ words_text w words ++ 10 ∷ []

-- the line of these words; left out where all of them are zero
unfoldable pub cells_shown : ℕ → ℕ → List ℕ → List ℕ
cells_shown w first words = (if list_all (λ word. word == 0) words then [] else cells_text w first words)

-- the most bytes of a line, with its LF
abbrev pub most_line_bytes : ℕ
most_line_bytes = 160

-- how many cells a line shows
abbrev pub line_cells : ℕ
line_cells = 8

-- the words of line k: so many cells, or what is left of them
abbrev pub line_words : ℕ → List ℕ → List ℕ
line_words k cells = take line_cells (drop (line_cells * k) cells)

-- the first lines of cells
unfoldable pub lines_before : ℕ → ℕ → List ℕ → List ℕ
lines_before w zero cells = []
lines_before w (suc k) cells = lines_before w k cells ++ cells_shown w (line_cells * k) (line_words k cells)

-- how many lines so many cells have
abbrev pub line_count : ℕ → ℕ
line_count n = (n + (line_cells - 1)) / line_cells

-- the text of a state of words of w bits: its size, its program status word, and its cells that are not zero
unfoldable pub state_text : ℕ → List ℕ → Psw → List ℕ
state_text w cells psw = size_text (length cells) ++ psw_text psw ++ lines_before w (line_count (length cells)) cells
