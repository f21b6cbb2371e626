-- What is done to a guest from outside: another word in a cell of its own, or another program status word.
use Rattle.std.specs.Prelude.{ℕ, zero, suc, if◌then◌else◌, List, [], ◌∷◌, Option, slice_set}
use Rattle.pg_word.specs.declared.psw.Psw.{Psw}
use Rattle.pg_lang_meaning.specs.States.{State}
use Rattle.pg_hw.specs.Machinery.{Machinery, loaded_with}
use Rattle.pg_routine.specs.Composing.{composed}
use Rattle.pg_mon_control.specs.declared.guest.Guest.{Guest}
use Rattle.pg_mon_control.specs.Current.{is_current}

-- a state with another word in a cell
abbrev pub with_cell : ℕ → ℕ → State → State
with_cell at word s = record s { cells = slice_set s.cells at word }

-- a state with another PSW
abbrev pub under_psw : Psw → State → State
under_psw psw s = record s { psw = psw }

-- the k-th of these states changed, and the others as they are
abbrev pub changed_at : ℕ → (State → State) → List State → List State
changed_at k change [] = []
changed_at zero change (s ∷ ss) = change s ∷ ss
changed_at (suc k) change (s ∷ ss) = s ∷ changed_at k change ss

-- a hardware behind a new PSW of guest k: where the guest is current, the one composed of it is loaded
abbrev pub entered_if_current : ℕ → Option ℕ → Guest → Psw → Machinery → Machinery
entered_if_current k current g psw h = if is_current k current then loaded_with (composed psw g.base g.size) h else h
