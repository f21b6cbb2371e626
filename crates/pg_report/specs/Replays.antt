-- The text of `replay`: of each finding that is shown its two states, each with the step that the machine makes from it.
use Rattle.std.specs.Prelude.{◌≡◌, ◌≤◌, ⊤, ℕ, zero, suc, List, [], ◌∷◌, ◌++◌, length, codes, slice_index_or, Option, None, Some, Result, OnOk, OnErr, IsErrOf}
use Rattle.pg_edge.specs.Count.{Rose}
use Rattle.pg_edge.specs.Told.{BothTold}
use Rattle.pg_edge.specs.Sink.{Adds, AddsFront}
use Rattle.pg_word.specs.declared.cause.Cause.{Cause}
use Rattle.pg_word.specs.declared.cause.Cause.TheVariants.{Memory, Trap, NoPattern}
use Rattle.pg_ast.specs.declared.tree.Desc.{Desc}
use Rattle.pg_lang_meaning.specs.States.{State, IsState, window}
use Rattle.pg_lang_meaning.specs.Steps.{ending, step}
use Rattle.pg_image.specs.Lines.{state_text}
use Rattle.pg_type.specs.declared.kind.Kind.{Kind}
use Rattle.pg_type.specs.Listed.{state_of}
use Rattle.pg_replay.specs.Storing.{cause_of}
use Rattle.pg_cert.specs.declared.cert.Family.{Family}
use Rattle.pg_cert.specs.declared.report.Mark.{Mark}
use Rattle.pg_cert.specs.declared.report.Mark.TheVariants.{Refuted, Shown, Spent}
use Rattle.pg_cert.specs.Lines.{kind_text}
use Rattle.pg_cert.specs.Texts.{name_of, instr_of, kind_of}
use Rattle.pg_report.specs.Texts.{name_text}
use Rattle.pg_report.specs.declared.replay.ReplayFault.{ReplayFault}
use Rattle.pg_report.specs.declared.replay.ReplayFault.TheVariants.{Failed}

-- ---- a step

-- how a step ended, by why it trapped
abbrev pub step_word : Option Cause → List ℕ
step_word None = codes "done"
step_word (Some Memory) = codes "memtrap"
step_word (Some Trap) = codes "trap"
step_word (Some NoPattern) = codes "trap"

-- `step WORD`
unfoldable pub step_line : Option Cause → List ℕ
step_line cause = codes "step " ++ step_word cause ++ 10 ∷ []

-- the text of a state of the machine
abbrev pub shown_state : Desc → State → List ℕ
shown_state d s = state_text d.word s.cells s.psw

-- a state, how the step from it ends, and the state that follows
unfoldable pub stepped_text : Desc → State → List ℕ
stepped_text d s = shown_state d s ++ (step_line (cause_of (ending d (window s) s.psw)) ++ shown_state d (step d s))

-- ---- a finding

-- `NAME KIND`
unfoldable pub finding_line : List ℕ → Kind → List ℕ
finding_line name kind = name_text name ++ 32 ∷ kind_text kind ++ 10 ∷ []

-- the finding of a kind of the instruction of this name: where states show it, these, each with its step
unfoldable pub replayed_text : Desc → List ℕ → Kind → Mark → List ℕ
replayed_text d name kind Refuted = []
replayed_text d name kind (Shown s t) = finding_line name kind ++ (stepped_text d (state_of s) ++ stepped_text d (state_of t))
replayed_text d name kind (Spent k) = []

-- ---- all findings

-- finding n, from 0
abbrev pub replayed_at : Desc → Family → List Mark → ℕ → List ℕ
replayed_at d family marks n = replayed_text d (name_of d (instr_of family n)) (kind_of family n) (slice_index_or marks n Refuted)

-- the first findings
unfoldable pub replays_before : Desc → Family → List Mark → ℕ → List ℕ
replays_before d family marks zero = []
replays_before d family marks (suc n) = replays_before d family marks n ++ replayed_at d family marks n

-- the whole text
abbrev pub replay_text : Desc → Family → List Mark → List ℕ
replay_text d family marks = replays_before d family marks (length marks)

-- ---- what can be replayed

-- the states that are kept are states of the machine
abbrev pub AreMarkStates : Desc → Mark → Type 0
AreMarkStates d Refuted = ⊤
AreMarkStates d (Shown s t) = IsState d (state_of s) × IsState d (state_of t)
AreMarkStates d (Spent k) = ⊤

-- what a call that puts this piece and takes memory for it does to the bytes so far and to the count of faults: as *Puts*,
-- but that lack of memory is no fault of the sink
pub record PutsOrStarves {T : Type 0} (was now : Option (List ℕ)) (before after : ℕ) (piece : List ℕ) (result : Result T ReplayFault) : Type 0 where
  pub whole : OnOk result (BothTold was now (Adds piece))
  pub front : OnErr result (BothTold was now (AddsFront piece))
  pub later : before ≤ after
  pub quiet : ¬ IsErrOf result Failed → after ≡ before
  pub cause : IsErrOf result Failed → Rose before after
