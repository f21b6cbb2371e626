-- The condition of Theorem 1 of the paper, and of Theorem 3 for the hybrid monitor.
use Rattle.std.specs.Prelude.{◌≡◌, ◌⊎◌, All}
use Rattle.pg_word.specs.declared.psw.Mode.TheVariants.{S, U}
use Rattle.pg_ast.specs.declared.tree.Instr.{Instr}
use Rattle.pg_ast.specs.declared.tree.Desc.{Desc}
use Rattle.pg_lang_meaning.specs.States.{State, IsState, in_user}
use Rattle.pg_type.specs.Kinds.{IsAt, course_at, IsDone, IsNoMemTrap, BreaksPrivilege, ShowsControl, ShowsMode, ShowsLocation, ShowsBound}

-- *Privileged* (section 3 of the paper): in user mode the instruction traps, in some way, at every state; and where neither
-- it nor the same state in supervisor mode memory traps, the supervisor one does not trap
pub record IsPrivileged (d : Desc) (i : Instr) : Type 0 where
  pub user_traps : (s : State) → IsState d s → s.psw.mode ≡ S → IsAt i s → ¬ IsDone (course_at d i (in_user s))
  pub supervisor_done : (s : State) → IsState d s → s.psw.mode ≡ S → IsAt i s →
      IsNoMemTrap (course_at d i s) → IsNoMemTrap (course_at d i (in_user s)) → IsDone (course_at d i s)

-- no pair of states shows that it is not
abbrev pub IsNeverBroken : Desc → Instr → Type 0
IsNeverBroken d i = (s t : State) → ¬ BreaksPrivilege d i s t

-- *ControlSensitive* (section 3 of the paper): at some state it is done with another mode or another R
abbrev pub ControlSensitive : Desc → Instr → Type 0
ControlSensitive d i = (s : State) × (t : State) × ShowsControl d i s t

-- *ModeAndLocationSensitive* (section 3 of the paper, behavior sensitive): what it does depends on the mode, or on where
-- the window lies
abbrev pub ModeSensitive : Desc → Instr → Type 0
ModeSensitive d i = (s : State) × (t : State) × ShowsMode d i s t

abbrev pub LocationSensitive : Desc → Instr → Type 0
LocationSensitive d i = (s : State) × (t : State) × ShowsLocation d i s t

abbrev pub ModeAndLocationSensitive : Desc → Instr → Type 0
ModeAndLocationSensitive d i = ModeSensitive d i ⊎ LocationSensitive d i

-- *BoundSensitive*: what it does depends on the bound, apart from the window that it opens
abbrev pub BoundSensitive : Desc → Instr → Type 0
BoundSensitive d i = (s : State) × (t : State) × ShowsBound d i s t

-- innocuous: none of the sensitive kinds
pub record IsInnocuous (d : Desc) (i : Instr) : Type 0 where
  pub control : ¬ ControlSensitive d i
  pub mode_and_location : ¬ ModeAndLocationSensitive d i
  pub bound : ¬ BoundSensitive d i

-- *Accepted* (the condition of Theorem 1): each instruction is privileged or not sensitive
abbrev pub IsAccepted : Desc → Type 0
IsAccepted d = All (λ i. IsPrivileged d i ⊎ IsInnocuous d i) d.instrs

-- *UserSensitive* (the paper on hybrid virtual machines, user sensitive): the same kinds, shown by user states alone
abbrev pub UserControlSensitive : Desc → Instr → Type 0
UserControlSensitive d i = (s : State) × (t : State) × ShowsControl d i s t × (s.psw.mode ≡ U)

abbrev pub UserLocationSensitive : Desc → Instr → Type 0
UserLocationSensitive d i = (s : State) × (t : State) × ShowsLocation d i s t × (s.psw.mode ≡ U)

abbrev pub UserBoundSensitive : Desc → Instr → Type 0
UserBoundSensitive d i = (s : State) × (t : State) × ShowsBound d i s t × (s.psw.mode ≡ U)

pub record IsUserInnocuous (d : Desc) (i : Instr) : Type 0 where
  pub control : ¬ UserControlSensitive d i
  pub location : ¬ UserLocationSensitive d i
  pub bound : ¬ UserBoundSensitive d i

-- *HybridAccepted* (the condition of Theorem 3): each instruction is privileged or not user sensitive
abbrev pub IsHybridAccepted : Desc → Type 0
IsHybridAccepted d = All (λ i. IsPrivileged d i ⊎ IsUserInnocuous d i) d.instrs
