-- The states that an answer names: words at addresses of a window, and zeros elsewhere.
use Rattle.std.specs.Prelude.{ℕ, zero, suc, List, [], ◌∷◌, ◌++◌, take, replicate}
use Rattle.pg_word.specs.declared.psw.Psw.{Psw}
use Rattle.pg_word.specs.Sparse.{storage_of}
use Rattle.pg_lang_meaning.specs.States.{State}

-- a window of so many cells with these words at these addresses, and zeros elsewhere: of two words at one address the first
-- one counts, and what stands at an address past the window is left out
abbrev pub window_of : List (ℕ × ℕ) → ℕ → List ℕ
window_of cells usable = storage_of usable cells

-- a storage of so many cells with these words from a place on, and zeros elsewhere
abbrev pub zeros_around : (size place : ℕ) → List ℕ → List ℕ
zeros_around size place words = take size (replicate place 0 ++ words ++ replicate size 0)

-- the state of a window, with zeros in all cells outside it
abbrev pub state_around : (size : ℕ) → Psw → List ℕ → State
state_around size psw cells = record { cells = zeros_around size psw.l cells; psw = psw }

-- a word, as states list it: zero is not listed
abbrev pub listed : (at word : ℕ) → List (ℕ × ℕ)
listed at zero = []
listed at (suc word) = (at, suc word) ∷ []
