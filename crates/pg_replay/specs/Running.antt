-- An instruction that is executed at a state.
use Rattle.std.specs.Prelude.{◌≡◌, ◌≢◌, ◌⊎◌, ℕ, List, slice_get, Some}
use Rattle.pg_word.specs.declared.psw.Psw.{Psw}
use Rattle.pg_ast.specs.declared.tree.Instr.{Instr}
use Rattle.pg_ast.specs.declared.tree.Desc.{Desc}
use Rattle.pg_lang_meaning.specs.States.{State, IsState, window}
use Rattle.pg_lang_meaning.specs.Steps.{ending_of}
use Rattle.pg_interp.specs.declared.effect.Effect.{Effect}
use Rattle.pg_interp.specs.declared.effect.Outcome.{Outcome}
use Rattle.pg_interp.specs.Writes.{written}
use Rattle.pg_interp.specs.Outcomes.{IsOutcome}
use Rattle.pg_type.specs.Kinds.{IsAt, IsDone, course_at, observation}

-- an instruction of the description
abbrev pub IsOf : Desc → Instr → Type 0
IsOf d i = (k : ℕ) × (slice_get d.instrs k ≡ Some i)

-- a state of the machine, with the instruction at P
pub record Stands (d : Desc) (i : Instr) (s : State) : Type 0 where
  pub state : IsState d s
  pub at : IsAt i s

-- the outcome of the instruction there
abbrev pub IsRun : Desc → Instr → State → Outcome → Type 0
IsRun d i s o = IsOutcome d.word (window s) (ending_of (course_at d i s)) o

-- another mode or another relocation-bounds register than before
abbrev pub HasOtherControl : Psw → Psw → Type 0
HasOtherControl old psw = (psw.mode ≢ old.mode) ⊎ (psw.l ≢ old.l) ⊎ (psw.b ≢ old.b)

-- the same window and the same P
pub record SameEffect (cells : List ℕ) (x y : Effect) : Type 0 where
  pub same_p : x.psw.p ≡ y.psw.p
  pub same_window : written x.writes cells ≡ written y.writes cells

-- the same mode, P and window
pub record AreAlike (s t : State) : Type 0 where
  pub same_p : s.psw.p ≡ t.psw.p
  pub same_mode : s.psw.mode ≡ t.psw.mode
  pub same_window : window s ≡ window t

-- the instruction stands at both, is done at one at least, and is observed differently
pub record Differ (d : Desc) (i : Instr) (s t : State) : Type 0 where
  pub first : Stands d i s
  pub second : Stands d i t
  pub done : IsDone (course_at d i s) ⊎ IsDone (course_at d i t)
  pub differ : observation d i s ≢ observation d i t
