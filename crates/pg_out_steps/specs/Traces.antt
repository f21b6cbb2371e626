-- The lines of a run.
use Rattle.std.specs.Prelude.{◌≡◌, ℕ, ◌≤◌, zero, suc, Bool, true, false, if◌then◌else◌, List, [], ◌++◌, Option, None, Some}
use Rattle.pg_word.specs.declared.cause.Cause.{Cause}
use Rattle.pg_ast.specs.declared.tree.Desc.{Desc}
use Rattle.pg_lang_meaning.specs.States.{State}
use Rattle.pg_lang_meaning.specs.Steps.{steps}
use Rattle.pg_edge.specs.Told.{BothTold}
use Rattle.pg_edge.specs.Sink.{Adds, AddsFront}
use Rattle.pg_interp.specs.declared.effect.Write.{Write}
use Rattle.pg_out_steps.specs.declared.shows.Shows.{Shows}
use Rattle.pg_out_steps.specs.declared.shows.Shows.TheVariants.{Steps, Traps, Counts}
use Rattle.pg_out_steps.specs.declared.shows.Telling.{Telling}
use Rattle.pg_out_steps.specs.declared.stepped.Stepped.{Stepped}
use Rattle.pg_out_steps.specs.Handling.{handling_under}
use Rattle.pg_out_steps.specs.Tells.{Tells}
use Rattle.pg_out_steps.specs.Lines.{step_line}

-- whether a step has a line that trapped for such a cause, if for any
abbrev pub is_shown : Shows → Option Cause → Bool
is_shown Steps cause = true
is_shown Traps None = false
is_shown Traps (Some cause) = true
is_shown Counts cause = false

-- the line of a step, where it has one
abbrev pub shown_step : Shows → Desc → ℕ → List Write → Stepped → List ℕ
shown_step shows d number stores r = if is_shown shows r.cause then step_line d number stores r else []

-- a text is made of a record of each of the first n steps from a state, in order, as they are shown; of a monitor where one is named
unfoldable pub IsTrace : Telling → Desc → ℕ → State → List ℕ → Type 0
IsTrace t d zero s text = text ≡ []
IsTrace t d (suc n) s text =
    (before : List ℕ) × (stores : List Write) × (r : Stepped) × IsTrace t d n s before × Tells d (steps d n s) stores r
    × (r.handling ≡ handling_under t.monitor d (steps d n s)) × (text ≡ before ++ shown_step t.shows d (suc n) stores r)

-- the lines of these steps were put
pub record PutsTrace (t : Telling) (d : Desc) (n : ℕ) (s : State) (was now : Option (List ℕ)) : Type 0 where
  pub lines : List ℕ
  pub trace : IsTrace t d n s lines
  pub written : BothTold was now (Adds lines)

-- a front was put of the lines of some first steps, of these at most
pub record PutsSome (t : Telling) (d : Desc) (n : ℕ) (s : State) (was now : Option (List ℕ)) : Type 0 where
  pub done : ℕ
  pub within : done ≤ n
  pub lines : List ℕ
  pub trace : IsTrace t d done s lines
  pub front : BothTold was now (AddsFront lines)
