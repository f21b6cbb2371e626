-- A state that is read line by line: its size, its program status word, and rows of its cells that are not zero, upwards.
use Rattle.std.specs.Prelude.{◌≡◌, ℕ, suc, ◌-◌, Bool, ◌&&◌, ◌==◌, nat_lt, min, if◌then◌else◌, List, [], ◌∷◌, ◌++◌, length, Option, None, Some}
use Rattle.std.specs.List.{list_all}
use Rattle.pg_word.specs.declared.psw.Psw.{Psw}
use Rattle.pg_word.specs.declared.sparse.Sparse.{Sparse}
use Rattle.pg_word.specs.Sparse.{storage_of}
use Rattle.pg_lang_meaning.specs.States.{State}
use Rattle.pg_image.specs.Lines.{line_cells}

-- a state as its lines give it: its cells that are not zero are listed
pub record Drawn : Type 0 where
  pub size : ℕ
  pub psw : Psw
  pub cells : List (ℕ × ℕ)

abbrev pub state_of : Drawn → State
state_of s = record { cells = storage_of s.size s.cells; psw = s.psw }

-- a state as it is kept
abbrev pub drawn_of : Sparse → Drawn
drawn_of s = record { size = s.size; psw = s.psw; cells = s.cells }

-- one of which no row was read
abbrev pub drawn : ℕ → Psw → Drawn
drawn size psw = record { size = size; psw = psw; cells = [] }

-- the cells of a row that are not zero, with their addresses
abbrev pub listed : ℕ → List ℕ → List (ℕ × ℕ)
listed at [] = []
listed at (word ∷ words) = (if word == 0 then listed (suc at) words else (at, word) ∷ listed (suc at) words)

-- a row fits where it comes behind all cells that are listed and has as many words as the storage has there, 8 at most
abbrev pub row_fits : Drawn → ℕ → List ℕ → Bool
row_fits s first words = list_all (λ cell. nat_lt cell.0 first) s.cells && (length words == min line_cells (s.size - first))

abbrev pub with_row : ℕ → List ℕ → Drawn → Option Drawn
with_row first words s = (if row_fits s first words then Some (record s { cells = s.cells ++ listed first words }) else None)

-- what is answered where a state is due, or none
abbrev pub IsStateDue : Option Drawn → Option Sparse → Type 0
IsStateDue due None = due ≡ None
IsStateDue due (Some s) = due ≡ Some (drawn_of s)
