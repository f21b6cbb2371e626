-- What is compared of two windows by the cells that are not zero.
use Rattle.std.specs.Prelude.{◌≡◌, ◌≢◌, ℕ, ◌+◌, ◌-◌, ◌<◌, ◌≤◌, List, Some, slice_get, slice_index}
use Rattle.pg_lang_meaning.specs.States.{State, window_length}

-- each cell of the first list that is not zero stands in the second at its address
abbrev pub IsCovered : List ℕ → List ℕ → Type 0
IsCovered xs ys = (a : ℕ) → slice_index xs a ≢ 0 → slice_get ys a ≡ Some (slice_index xs a)

-- the word of an address of the storage, where it lies in the window of a state, stands in a window at the same place
abbrev pub StandsIn : State → List ℕ → ℕ → ℕ → Type 0
StandsIn s cells at word = s.psw.l ≤ at → at < s.psw.l + window_length s → slice_get cells (at - s.psw.l) ≡ Some word
