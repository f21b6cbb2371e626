-- Privileged and sensitive instructions (section 3 of the paper), read with a trap of any kind for a memory trap,
-- with a trap and no trap as different, and over the machines of every size from 2 to q.
use Rattle.std.specs.Prelude.{◌≡◌, ◌≢◌, ◌⊎◌, ℕ, List, length, Option, None, Some, slice_get, IsSomeAnd, IsTrue}
use Rattle.pg_word.specs.declared.psw.Psw.{Psw}
use Rattle.pg_word.specs.declared.psw.Mode.TheVariants.{S, U}
use Rattle.pg_ast.specs.declared.tree.Instr.{Instr}
use Rattle.pg_ast.specs.declared.tree.Desc.{Desc}
use Rattle.pg_type.specs.declared.kind.Kind.{Kind}
use Rattle.pg_type.specs.declared.kind.Kind.TheVariants.{Privileged, Control, ModeDep, Location, Bound, UControl, ULocation, UBound}
use Rattle.pg_lang_meaning.specs.Patterns.{matches}
use Rattle.pg_lang_meaning.specs.Bodies.{Course, MemTrapped, Trapped, Going, After, body}
use Rattle.pg_lang_meaning.specs.States.{State, IsState, window, in_user}

-- "i at S": P is usable and the word fetched matches the instruction's pattern
abbrev pub IsAt : Instr → State → Type 0
IsAt i s = IsSomeAnd (slice_get (window s) s.psw.p) (λ word. IsTrue (matches i.pattern.bytes word))

-- the word at P; used only where P is usable
abbrev pub fetched_word : Option ℕ → ℕ
fetched_word None = 0
fetched_word (Some word) = word

-- how the instruction ends at a state: a memory trap, a trap, or what it leaves
unfoldable pub course_at : Desc → Instr → State → Course After
course_at d i s = body d i (window s) s.psw (fetched_word (slice_get (window s) s.psw.p))

-- what is observed of an instruction: a memory trap, a trap, or done with the window at the R of entry and the P after it
pub data Observation : Type 0 where
  SeenMemTrap : Observation
  SeenTrap : Observation
  SeenDone : (cells : List ℕ) (p : ℕ) → Observation

abbrev pub observed : Course After → Observation
observed MemTrapped = SeenMemTrap
observed Trapped = SeenTrap
observed (Going after) = SeenDone after.window after.psw.p

-- the observation of an instruction at a state
abbrev pub observation : Desc → Instr → State → Observation
observation d i s = observed (course_at d i s)

-- done: neither trap
abbrev pub IsDone : Course After → Type 0
IsDone MemTrapped = ⊥
IsDone Trapped = ⊥
IsDone (Going after) = Unit {0}

-- a trap that is no memory trap
abbrev pub IsTrap : Course After → Type 0
IsTrap MemTrapped = ⊥
IsTrap Trapped = Unit {0}
IsTrap (Going after) = ⊥

-- no memory trap
abbrev pub IsNoMemTrap : Course After → Type 0
IsNoMemTrap MemTrapped = ⊥
IsNoMemTrap Trapped = Unit {0}
IsNoMemTrap (Going after) = Unit {0}

-- done, with another mode or another relocation-bounds register than before
abbrev pub ChangesControl : Psw → Course After → Type 0
ChangesControl old MemTrapped = ⊥
ChangesControl old Trapped = ⊥
ChangesControl old (Going after) = (after.psw.mode ≢ old.mode) ⊎ (after.psw.l ≢ old.l) ⊎ (after.psw.b ≢ old.b)

-- a supervisor state and the same state in user mode, the instruction at both
pub record IsModePair (d : Desc) (i : Instr) (s t : State) : Type 0 where
  pub state : IsState d s
  pub supervisor : s.psw.mode ≡ S
  pub same_in_user : t ≡ in_user s
  pub at_first : IsAt i s
  pub at_second : IsAt i t

-- a pair that shows an instruction not to be privileged
pub record BreaksPrivilege (d : Desc) (i : Instr) (s t : State) : Type 0 where
  pub pair : IsModePair d i s t
  pub breaks : IsDone (course_at d i t)
      ⊎ (IsNoMemTrap (course_at d i t) × IsTrap (course_at d i s))

-- a state, given twice, in which an instruction that is done changes mode or R
pub record ShowsControl (d : Desc) (i : Instr) (s t : State) : Type 0 where
  pub state : IsState d s
  pub same : t ≡ s
  pub at : IsAt i s
  pub changes : ChangesControl s.psw (course_at d i s)

-- a supervisor state and the same in user mode, the user one done, with different observations
pub record ShowsMode (d : Desc) (i : Instr) (s t : State) : Type 0 where
  pub pair : IsModePair d i s t
  pub done : IsDone (course_at d i t)
  pub differ : observation d i s ≢ observation d i t

-- two states of one size with equal bound, mode, P and window, at different places, at least one done,
-- with different observations
pub record ShowsLocation (d : Desc) (i : Instr) (s t : State) : Type 0 where
  pub first : IsState d s
  pub second : IsState d t
  pub at_first : IsAt i s
  pub at_second : IsAt i t
  pub same_size : length s.cells ≡ length t.cells
  pub same_bound : s.psw.b ≡ t.psw.b
  pub same_mode : s.psw.mode ≡ t.psw.mode
  pub same_p : s.psw.p ≡ t.psw.p
  pub same_window : window s ≡ window t
  pub moved : s.psw.l ≢ t.psw.l
  pub done : IsDone (course_at d i s) ⊎ IsDone (course_at d i t)
  pub differ : observation d i s ≢ observation d i t

-- two states of any sizes with equal l, mode, P and window, under different bounds, at least one done,
-- with different observations
pub record ShowsBound (d : Desc) (i : Instr) (s t : State) : Type 0 where
  pub first : IsState d s
  pub second : IsState d t
  pub at_first : IsAt i s
  pub at_second : IsAt i t
  pub same_l : s.psw.l ≡ t.psw.l
  pub same_mode : s.psw.mode ≡ t.psw.mode
  pub same_p : s.psw.p ≡ t.psw.p
  pub same_window : window s ≡ window t
  pub other_bound : s.psw.b ≢ t.psw.b
  pub done : IsDone (course_at d i s) ⊎ IsDone (course_at d i t)
  pub differ : observation d i s ≢ observation d i t

-- *Shows*: two states show a kind of an instruction
abbrev pub Shows : Desc → Instr → Kind → State → State → Type 0
Shows d i Privileged s t = BreaksPrivilege d i s t
Shows d i Control s t = ShowsControl d i s t
Shows d i ModeDep s t = ShowsMode d i s t
Shows d i Location s t = ShowsLocation d i s t
Shows d i Bound s t = ShowsBound d i s t
Shows d i UControl s t = ShowsControl d i s t × (s.psw.mode ≡ U)
Shows d i ULocation s t = ShowsLocation d i s t × (s.psw.mode ≡ U)
Shows d i UBound s t = ShowsBound d i s t × (s.psw.mode ≡ U)
