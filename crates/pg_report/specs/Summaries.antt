-- The summary of a run on a machine that was made and asked about: its count of instructions, the counts of turns, and a line
-- for each guest. Every line ends with LF; numbers are decimal, but for the word of a sum.
use Rattle.std.specs.Prelude.{ℕ, suc, ◌-◌, ◌/◌, ◌%◌, ◌^◌, List, [], ◌∷◌, ◌++◌, length, take, sum, codes}
use Rattle.std.specs.Fmt.{decimal}
use Rattle.pg_word.specs.declared.psw.Psw.{Psw}
use Rattle.pg_text.specs.Printing.{hex_text}
use Rattle.pg_lang_meaning.specs.States.{State}
use Rattle.pg_image.specs.Lines.{psw_text}
use Rattle.pg_report.specs.Runs.{steps_line}

-- `instructions N`
unfoldable pub instructions_line : ℕ → List ℕ
instructions_line n = codes "instructions " ++ decimal n ++ 10 ∷ []

-- the sum of cells, as a word of w bits
abbrev pub sum_of : ℕ → List ℕ → ℕ
sum_of w cells = sum cells % 2 ^ w

-- a line without its LF
abbrev pub without_end : List ℕ → List ℕ
without_end line = take (length line - 1) line

-- `guest K psw M P L B sum H`: the number of a guest from 0, its program status word, and the sum of its cells
unfoldable pub summary_line : ℕ → ℕ → List ℕ → Psw → List ℕ
summary_line w k cells psw =
    codes "guest " ++ decimal k ++ 32 ∷ without_end (psw_text psw) ++ codes " sum " ++ hex_text (w / 4) (sum_of w cells) ++ 10 ∷ []

-- guests from number k on, a line each
abbrev pub summaries : ℕ → ℕ → List State → List ℕ
summaries w k [] = []
summaries w k (s ∷ ss) = summary_line w k s.cells s.psw ++ summaries w (suc k) ss

-- guests at these states, after so many steps in all
unfoldable pub summary_text : ℕ → List State → ℕ → ℕ → List ℕ
summary_text w states steps direct = steps_line steps direct ++ summaries w 0 states
