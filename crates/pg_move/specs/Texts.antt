-- The text of a saved guest: how many steps it has made, and the state at which it stands. It has one spelling.
use Rattle.std.specs.Prelude.{ℕ, ◌+◌, ◌*◌, ◌^◌, ◌<◌, ◌≤◌, List, [], ◌∷◌, ◌++◌, length, codes}
use Rattle.std.specs.Fmt.{decimal}
use Rattle.std.specs.List.{All}
use Rattle.pg_word.specs.declared.shape.Shape.{Shape}
use Rattle.pg_word.specs.Psw.{IsPsw}
use Rattle.pg_lang_meaning.specs.States.{State}
use Rattle.pg_image.specs.Lines.{state_text, line_count}

-- the most steps that a text counts
abbrev pub most_steps : ℕ
most_steps = 1000000000

-- the most bytes of a text that is read
abbrev pub most_bytes : ℕ
most_bytes = 33554432

-- what is saved of a guest
pub record SavedGuest : Type 0 where
  pub steps : ℕ
  pub state : State

-- one whose numbers and words are in range, for machines of a shape
pub record IsSaved (shape : Shape) (g : SavedGuest) : Type 0 where
  pub steps : g.steps ≤ most_steps
  pub least : 2 ≤ length g.state.cells
  pub most : length g.state.cells ≤ shape.q
  pub words : All (λ cell. cell < 2 ^ shape.w) g.state.cells
  pub fields : IsPsw shape.a g.state.psw

-- ---- lines

-- `pgguest 1`
abbrev pub first_text : List ℕ
first_text = codes "pgguest 1" ++ 10 ∷ []

-- `steps N`
unfoldable pub steps_text : ℕ → List ℕ
steps_text n = codes "steps " ++ decimal n ++ 10 ∷ []

-- `end`
abbrev pub end_text : List ℕ
end_text = codes "end" ++ 10 ∷ []

-- the first line, the steps, the text of the state, and the last line
unfoldable pub saved_text : Shape → ℕ → State → List ℕ
saved_text shape n s = first_text ++ steps_text n ++ state_text shape.w s.cells s.psw ++ end_text

-- ---- room

-- the most bytes of a row of words of w bits: ten digits, a colon, LF, and for each word a space and its digits
abbrev pub row_room : ℕ → ℕ
row_room w = 20 + 2 * w

-- how many bytes are enough for the text of a state of so many cells: 86 for all lines but its rows
abbrev pub room_of : Shape → ℕ → ℕ
room_of shape size = 86 + row_room shape.w * line_count size
