-- What is told of a guest in place of its state: some of its cells, as words or as bytes.
use Rattle.std.specs.Prelude.{ℕ, zero, suc, ◌+◌, ◌-◌, ◌*◌, ◌/◌, ◌%◌, ◌≤◌, List, [], ◌∷◌, ◌++◌, All}
use Rattle.pg_lang_meaning.specs.States.{State}
use Rattle.pg_image.specs.Lines.{cells_text, line_cells, line_count, line_words, state_text}
use Rattle.pg_report.specs.Spans.{span}
use Rattle.pg_run_still.specs.declared.view.Span.{Span}
use Rattle.pg_run_still.specs.declared.view.View.{View}
use Rattle.pg_run_still.specs.declared.view.View.TheVariants.{Cells, Bytes}

-- ---- which cells

-- the address behind the last cell that is shown
abbrev pub end_of : View → ℕ
end_of (Cells s) = s.to
end_of (Bytes s n) = s.to

-- they show cells of a storage of this size, and no others
abbrev pub AreViewsOf : ℕ → List View → Type 0
AreViewsOf size views = All (λ view. end_of view ≤ size) views

-- the cells of a span
abbrev pub cells_of : Span → List ℕ → List ℕ
cells_of s cells = span s.from (s.to - s.from) cells

-- ---- how they read

-- the first lines of cells, of which the first has this address; none is left out
unfoldable pub rows_from : ℕ → ℕ → ℕ → List ℕ → List ℕ
rows_from w first zero cells = []
rows_from w first (suc k) cells = rows_from w first k cells ++ cells_text w (first + line_cells * k) (line_words k cells)

-- so many low bytes of a word, the low one first
unfoldable pub low_bytes : ℕ → ℕ → List ℕ
low_bytes zero word = []
low_bytes (suc n) word = word % 256 ∷ low_bytes n (word / 256)

-- those of each of these words
unfoldable pub bytes_of : ℕ → List ℕ → List ℕ
bytes_of n [] = []
bytes_of n (word ∷ words) = low_bytes n word ++ bytes_of n words

-- what a view shows of a state of words of w bits: lines of eight cells, or bytes and a line feed
unfoldable pub view_text : ℕ → View → State → List ℕ
view_text w (Cells s) state = rows_from w s.from (line_count (s.to - s.from)) (cells_of s state.cells)
view_text w (Bytes s n) state = bytes_of n.count (cells_of s state.cells) ++ 10 ∷ []

-- what views show of it, one behind the other
unfoldable pub views_text : ℕ → List View → State → List ℕ
views_text w [] state = []
views_text w (view ∷ views) state = view_text w view state ++ views_text w views state

-- what is told of a guest: what the views show, or its whole state where there is none
unfoldable pub guest_text : ℕ → List View → State → List ℕ
guest_text w [] state = state_text w state.cells state.psw
guest_text w (view ∷ views) state = views_text w (view ∷ views) state
