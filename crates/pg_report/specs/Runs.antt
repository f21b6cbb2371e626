-- What is told of guests that ran under a monitor. Every line ends with LF; numbers are decimal.
use Rattle.std.specs.Prelude.{ℕ, suc, List, [], ◌∷◌, ◌++◌, codes}
use Rattle.std.specs.Fmt.{decimal}
use Rattle.pg_lang_meaning.specs.States.{State}
use Rattle.pg_image.specs.Lines.{state_text}

-- the line before the state of a guest, by its number from 0
unfoldable pub guest_line : ℕ → List ℕ
guest_line k = codes "guest " ++ decimal k ++ 10 ∷ []

-- the last line: the steps of all guests, and how many of them the hardware executed untrapped
unfoldable pub steps_line : ℕ → ℕ → List ℕ
steps_line steps direct = codes "steps " ++ decimal steps ++ codes " direct " ++ decimal direct ++ 10 ∷ []

-- behind a run of a guest that went on: the steps that it has made in all
unfoldable pub total_line : ℕ → List ℕ
total_line steps = codes "total " ++ decimal steps ++ 10 ∷ []

-- guests from number k on, each with its state
abbrev pub guests_text : ℕ → ℕ → List State → List ℕ
guests_text w k [] = []
guests_text w k (s ∷ ss) = guest_line k ++ state_text w s.cells s.psw ++ guests_text w (suc k) ss

-- guests at these states, after so many steps in all
unfoldable pub run_text : ℕ → List State → ℕ → ℕ → List ℕ
run_text w states steps direct = guests_text w 0 states ++ steps_line steps direct
