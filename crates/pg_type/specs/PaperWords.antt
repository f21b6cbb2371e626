-- The paper's own words (section 3 of the paper), without this project's readings but that sizes range from 2 to q:
-- privileged over pairs of states in which neither memory traps, sensitive over states that do not trap.
use Rattle.std.specs.Prelude.{◌≡◌, ◌≢◌, ◌⊎◌, length, All}
use Rattle.pg_word.specs.declared.psw.Mode.TheVariants.{S}
use Rattle.pg_ast.specs.declared.tree.Instr.{Instr}
use Rattle.pg_ast.specs.declared.tree.Desc.{Desc}
use Rattle.pg_lang_meaning.specs.States.{State, IsState, window, in_user}
use Rattle.pg_type.specs.Kinds.{IsAt, course_at, observation, IsDone, IsTrap, IsNoMemTrap, ChangesControl}

-- paper-privileged: of every state pair that differs in the mode alone and memory traps in neither, the user one traps and
-- the supervisor one does not
pub record IsPaperPrivileged (d : Desc) (i : Instr) : Type 0 where
  pub user_traps : (s : State) → IsState d s → s.psw.mode ≡ S → IsAt i s →
      IsNoMemTrap (course_at d i s) → IsNoMemTrap (course_at d i (in_user s)) → IsTrap (course_at d i (in_user s))
  pub supervisor_does_not : (s : State) → IsState d s → s.psw.mode ≡ S → IsAt i s →
      IsNoMemTrap (course_at d i s) → IsNoMemTrap (course_at d i (in_user s)) → IsDone (course_at d i s)

-- a state that is done with mode or R changed
pub record ChangesControlAt (d : Desc) (i : Instr) (s : State) : Type 0 where
  pub state : IsState d s
  pub at : IsAt i s
  pub changes : ChangesControl s.psw (course_at d i s)

-- two states of one size with equal P and bound, equal windows at l and at l moved by some number of cells, in any modes,
-- both done, whose windows or P afterwards differ
pub record DiffersElsewhere (d : Desc) (i : Instr) (s t : State) : Type 0 where
  pub first : IsState d s
  pub second : IsState d t
  pub at_first : IsAt i s
  pub at_second : IsAt i t
  pub same_size : length s.cells ≡ length t.cells
  pub same_p : s.psw.p ≡ t.psw.p
  pub same_bound : s.psw.b ≡ t.psw.b
  pub same_window : window s ≡ window t
  pub first_done : IsDone (course_at d i s)
  pub second_done : IsDone (course_at d i t)
  pub differ : observation d i s ≢ observation d i t

-- paper-sensitive on states that do not trap
abbrev pub IsPaperSensitive : Desc → Instr → Type 0
IsPaperSensitive d i =
    ((s : State) × ChangesControlAt d i s) ⊎ ((s : State) × (t : State) × DiffersElsewhere d i s t)

-- *PaperWords*: each instruction is paper-privileged, or not paper-sensitive
abbrev pub HoldPaperWords : Desc → Type 0
HoldPaperWords d = All (λ i. IsPaperPrivileged d i ⊎ (¬ IsPaperSensitive d i)) d.instrs
