-- Two states that show a kind of an instruction, each with one step.
use Rattle.std.specs.Prelude.{◌≡◌, ◌≢◌, ℕ, List, None, Some, IsSome, slice_get}
use Rattle.pg_ast.specs.declared.tree.Desc.{Desc}
use Rattle.pg_lang_meaning.specs.States.{State, IsState, window, window_length, in_user}
use Rattle.pg_lang_meaning.specs.Steps.{ending, step}
use Rattle.pg_type.specs.Listed.{state_of}
use Rattle.pg_replay.specs.Storing.{cause_of}
use Rattle.pg_out_pair.specs.declared.told.Told.{Told}
use Rattle.pg_out_pair.specs.declared.told.Explained.{Explained}
use Rattle.pg_out_pair.specs.Telling.{AreDifferences, seen}

-- the word at P, how the step from the state ends, and the state that follows
pub record IsTold (d : Desc) (s : State) (t : Told) : Type 0 where
  pub word : slice_get (window s) s.psw.p ≡ Some t.word
  pub cause : t.cause ≡ cause_of (ending d (window s) s.psw)
  pub after : state_of t.after ≡ step d s

-- the window that was open before a step, in the storage behind it
abbrev pub left_window : Desc → State → List ℕ
left_window d s = window (seen s.psw (step d s))

-- both told, and the first in user mode; and the differences of the windows that the steps left
pub record IsExplained (d : Desc) (s t : State) (e : Explained) : Type 0 where
  pub first : IsTold d s e.first
  pub second : IsTold d t e.second
  pub user : IsTold d (in_user s) e.user
  pub differences : AreDifferences (left_window d s) (left_window d t) e.differences.items

-- states of the machine at which P is usable, with windows of one length
pub record IsShownPair (d : Desc) (s t : State) : Type 0 where
  pub first : IsState d s
  pub second : IsState d t
  pub first_usable : IsSome (slice_get (window s) s.psw.p)
  pub second_usable : IsSome (slice_get (window t) t.psw.p)
  pub same_length : window_length s ≡ window_length t

-- a word of the pattern is done in user mode, as the second state of the first pair shows; and another one traps there, as the
-- first state of the second pair shows, taken in user mode
pub record WordsPart (broken other : Explained) : Type 0 where
  pub done : broken.second.cause ≡ None
  pub traps : IsSome other.user.cause
  pub differ : broken.second.word ≢ other.user.word
