-- The cells of a window.
use Rattle.std.proofs.Common.{◌≡◌, ℕ, ◌+◌, ◌<◌, ◌≤◌, drop, slice_get, slice_index, None, Some, ap, ◌∙◌, arith}
use Rattle.std.proofs.lemmas.List.{get_or-take, get_or-drop}
use Rattle.std.proofs.lemmas.Option.{slice_get-get_or, slice_get_past}
use Rattle.pg_lang_meaning.specs.States.{State, window, window_length}
use Rattle.pg_lang_valid.proofs.StepSound.{window-length}

-- a usable address has the cell that is so many past the relocation
pub window-in : (s : State) (a : ℕ) → a < window_length s → slice_get (window s) a ≡ Some (slice_index s.cells (s.psw.l + a))
window-in s a h =
    slice_get-get_or (window s) a 0 (omega (arith, window-length s, h))
    ∙ ap Some (get_or-take (window_length s) (drop s.psw.l s.cells) a 0 h ∙ get_or-drop s.psw.l s.cells a 0)

-- no other address has a cell
pub window-out : (s : State) (a : ℕ) → window_length s ≤ a → slice_get (window s) a ≡ None
window-out s a h = slice_get_past (window s) a (omega (arith, window-length s, h))
