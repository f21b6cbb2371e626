-- What a run that was shown to its end left.
use Rattle.std.specs.Prelude.{◌≡◌, ℕ, Bool, true, false, if◌then◌else◌, List, [], ◌++◌, Option, None, Some, Result, Ok, Err}
use Rattle.pg_ast.specs.declared.tree.Desc.{Desc}
use Rattle.pg_cert.specs.declared.report.Report.{Report}
use Rattle.pg_edge.specs.Shelf.{Files}
use Rattle.pg_edge.specs.Sink.{Adds}
use Rattle.pg_edge.specs.Told.{BothTold}
use Rattle.pg_image.specs.Lines.{state_text}
use Rattle.pg_lang_meaning.specs.States.{State}
use Rattle.pg_lang_meaning.specs.Steps.{power_on}
use Rattle.pg_cmd_base.specs.Steps.{Came}
use Rattle.pg_cmd_base.specs.declared.status.Status.{Status}
use Rattle.pg_cmd_base.specs.declared.status.Status.TheVariants as status
use Rattle.pg_out_steps.specs.declared.tracing.TraceFault.{TraceFault}
use Rattle.pg_out_steps.specs.declared.tracing.TraceFault.TheVariants.{Output, Memory}
use Rattle.pg_cmd_plain.specs.Bare.{BareRun, BareDue, reached}
use Rattle.pg_out_steps.specs.Counting.{IsTally}
use Rattle.pg_out_steps.specs.Handling.{AreShares}
use Rattle.pg_out_steps.specs.Lines.{counts_text, shares_text}
use Rattle.pg_out_steps.specs.Traces.{IsTrace}
use Rattle.pg_out_steps.specs.declared.shows.Shows.{Shows}
use Rattle.pg_out_steps.specs.declared.shows.Shows.TheVariants.{Steps, Traps, Counts}
use Rattle.pg_out_steps.specs.declared.shows.Telling.{Telling}
use Rattle.pg_out_steps.specs.declared.handling.Monitor.{Monitor}
use Rattle.pg_out_steps.specs.declared.shares.Shares.{Shares}
use Rattle.pg_out_steps.specs.declared.tally.Tally.{Tally}
use Rattle.pg_prog_trace.specs.Judging.{monitor_of, IsJudged}
use Rattle.pg_prog_trace.specs.Until.{IsPart}
use Rattle.pg_prog_trace.specs.declared.request.TraceWords.{TraceWords}

-- the text of the state that a run reaches
abbrev pub reached_text : BareRun → List ℕ
reached_text r = state_text r.desc.word (reached r).cells (reached r).psw

-- whether the state is put, behind the counts
abbrev pub has_state : Shows → Bool
has_state Steps = true
has_state Traps = true
has_state Counts = false

abbrev pub end_text : Shows → BareRun → List ℕ
end_text shows r = if has_state shows then reached_text r else []

-- how the program ends, by how the text was put
abbrev pub ended_as : Result (Unit {0}) TraceFault → Status
ended_as (Ok done) = status.Done
ended_as (Err Output) = status.WriteFault
ended_as (Err Memory) = status.Memory

-- the lines of shares, where a monitor is named
abbrev pub handled_text : Option Monitor → Shares → List ℕ
handled_text None t = []
handled_text (Some monitor) t = shares_text t

-- all lines of counts
abbrev pub all_counts : Option Monitor → Desc → Tally → List ℕ
all_counts monitor d t = counts_text d t ++ handled_text monitor t.shares

-- the text of a run: lines of its steps, its counts, and its end
pub record IsText (t : Telling) (r : BareRun) (text : List ℕ) : Type 0 where
  pub lines : List ℕ
  pub trace : IsTrace t r.desc r.steps (power_on r.image r.grant) lines
  pub tally : Tally
  pub counts : IsTally r.desc r.steps (power_on r.image r.grant) tally
  pub shares : AreShares t.monitor r.desc r.steps (power_on r.image r.grant) tally.shares
  pub whole : text ≡ lines ++ (all_counts t.monitor r.desc tally ++ end_text t.shows r)

-- this text was put
pub record PutsText (t : Telling) (r : BareRun) (was now : Option (List ℕ)) : Type 0 where
  pub text : List ℕ
  pub of_run : IsText t r text
  pub written : BothTold was now (Adds text)

-- the text of a run was put with what the monitor would do that a certificate lets run its machine
pub record PutsJudged (shows : Shows) (cert : List ℕ) (told : Option Files) (r : BareRun) (was now : Option (List ℕ)) : Type 0 where
  pub report : Report
  pub judged : IsJudged cert told r report
  pub put : PutsText (record { shows = shows; monitor = Some (monitor_of report.family) }) r was now

-- the text is that of the words: of a monitor where they name a certificate
abbrev pub PutsRun : Shows → Option (List ℕ) → Option Files → BareRun → (was now : Option (List ℕ)) → Type 0
PutsRun shows None told r was now = PutsText (record { shows = shows; monitor = None }) r was now
PutsRun shows (Some cert) told r was now = PutsJudged shows cert told r was now

-- the run that is due was done, up to where its condition first holds if one is named: its text was put whole, and the hardware holds
-- the state that a bare machine reaches
pub record IsShown (w : TraceWords) (told : Option Files) (state : State) (was now : Option (List ℕ)) : Type 0 where
  pub due : BareRun
  pub is_due : BareDue w.bare told (Came due)
  pub run : BareRun
  pub part : IsPart w.until due run
  pub reached : state ≡ reached run
  pub put : PutsRun w.shows w.cert told run was now
