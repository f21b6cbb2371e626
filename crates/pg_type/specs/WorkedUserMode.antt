-- What is done alike in user mode on M1, which a hybrid monitor may run and the other may not; and a pair that is not done
-- alike. Each is a law of the crate.
use Rattle.std.specs.Prelude.{◌≡◌, [], ◌∷◌}
use Rattle.pg_word.specs.declared.psw.Mode.TheVariants.{S, U}
use Rattle.pg_lang_meaning.specs.Bodies.{After}
use Rattle.pg_lang_meaning.specs.States.{State, window}
use Rattle.pg_lang_meaning.specs.Steps.{ending, step, ends_in_trap}
use Rattle.pg_type.specs.Alike.{LookAlike, DoneAlike, StepsAlike}
use Rattle.pg_type.specs.Examples.{m1, state, rtu}

-- rtu 3 in user mode
abbrev pub here : State
here = state (0 ∷ 0 ∷ 0x05000003 ∷ 0 ∷ []) U 2 0 4

-- the same window three cells further, in a larger storage, which ends it before the bound does
abbrev pub elsewhere : State
elsewhere = state (0 ∷ 0 ∷ 0 ∷ 0 ∷ 0 ∷ 0x05000003 ∷ 0 ∷ []) U 2 3 9

abbrev pub RtuDoneAlike : Type 0
RtuDoneAlike = DoneAlike m1 rtu here elsewhere

abbrev pub RtuTrapsAlike : Type 0
RtuTrapsAlike = ends_in_trap (ending m1 (window here) here.psw) ≡ ends_in_trap (ending m1 (window elsewhere) elsewhere.psw)

-- what it leaves at the first: the window as it was, P at 3
abbrev pub left_here : After
left_here = record { window = 0 ∷ 0 ∷ 0x05000003 ∷ 0 ∷ []; psw = record { mode = U; p = 3; l = 0; b = 4 } }

abbrev pub RtuStepsAlike : Type 0
RtuStepsAlike = StepsAlike m1 here elsewhere left_here

abbrev pub RtuKeepsControl : Type 0
RtuKeepsControl = (step m1 here).psw ≡ record here.psw { p = 3 }

-- the second state in supervisor mode looks alike too, and there rtu enters user mode
abbrev pub elsewhere_in_s : State
elsewhere_in_s = state (0 ∷ 0 ∷ 0 ∷ 0 ∷ 0 ∷ 0x05000003 ∷ 0 ∷ []) S 2 3 9

abbrev pub RtuInSupervisorModeIsNotAlike : Type 0
RtuInSupervisorModeIsNotAlike = LookAlike here elsewhere_in_s × (¬ DoneAlike m1 rtu here elsewhere_in_s)
