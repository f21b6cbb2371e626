-- States that look alike to a program, and what is done alike at them.
use Rattle.std.specs.Prelude.{◌≡◌, ℕ, ◌+◌, ◌≤◌, List, length}
use Rattle.pg_word.specs.declared.psw.Psw.{Psw}
use Rattle.pg_ast.specs.declared.tree.Instr.{Instr}
use Rattle.pg_ast.specs.declared.tree.Desc.{Desc}
use Rattle.pg_lang_meaning.specs.Bodies.{After}
use Rattle.pg_lang_meaning.specs.States.{State, window}
use Rattle.pg_lang_meaning.specs.Steps.{Done, ending}
use Rattle.pg_type.specs.Kinds.{course_at, observation, ChangesControl}

-- two states of equal windows and equal P; sizes, modes, and where the windows lie and end may differ
pub record LookAlike (s t : State) : Type 0 where
  pub same_window : window s ≡ window t
  pub same_p : s.psw.p ≡ t.psw.p

-- an instruction at two states: the same is observed of it, and at neither does it change mode or R
pub record DoneAlike (d : Desc) (i : Instr) (s t : State) : Type 0 where
  pub same_observed : observation d i t ≡ observation d i s
  pub kept_at_first : ¬ ChangesControl s.psw (course_at d i s)
  pub kept_at_second : ¬ ChangesControl t.psw (course_at d i t)

-- a step that is done at the first of two states leaves its mode and R as they were;
-- at the second it is done with the same window and the same P after it, and leaves that one's mode and R as they were
pub record StepsAlike (d : Desc) (s t : State) (after : After) : Type 0 where
  pub kept : after.psw ≡ record s.psw { p = after.psw.p }
  pub same_done : ending d (window t) t.psw ≡ Done (record { window = after.window; psw = record t.psw { p = after.psw.p } })

-- a PSW that opens, in a storage of the largest size, a window of as many cells as these
pub record Places (d : Desc) (cells : List ℕ) (psw : Psw) : Type 0 where
  pub bound : psw.b ≡ length cells
  pub room : psw.l + length cells ≤ d.size
