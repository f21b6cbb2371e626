-- What `pg_trace` leaves, status by status: the steps that its words come to, and what is put of the run.
use Rattle.std.specs.Prelude.{◌≡◌, ◌≢◌, ◌⊎◌, ℕ, List, Option, None, Some, IfSome}
use Rattle.pg_cli_table.specs.declared.bare.BareWords.{BareWords}
use Rattle.pg_cert.specs.declared.report.Report.{Report}
use Rattle.pg_cert.specs.declared.report.Verdict.TheVariants.{Accepted}
use Rattle.pg_edge.specs.Count.{Rose}
use Rattle.pg_edge.specs.Shelf.{Files}
use Rattle.pg_edge.specs.Sink.{AddsFront}
use Rattle.pg_edge.specs.Told.{BothTold}
use Rattle.pg_hw.specs.Machinery.{Machinery}
use Rattle.pg_cmd_certs.specs.Judged.{Judged, verdict_on, verdict_told}
use Rattle.pg_cmd_certs.specs.Meaning.{VerdictMeans}
use Rattle.pg_cmd_certs.specs.Telling.{ToldWhole}
use Rattle.pg_lang_meaning.specs.States.{State}
use Rattle.pg_lang_meaning.specs.Steps.{power_on}
use Rattle.pg_cmd_base.specs.Classes.{Class, Ended, Unwritten, Unread, OutOfMemory, class_of}
use Rattle.pg_cmd_base.specs.Commands.{Command, EndsRefused, BreaksRefused, Misreads, StarvesBefore}
use Rattle.pg_cmd_base.specs.Steps.{Step, Came, Then, Gives}
use Rattle.pg_cmd_base.specs.World.{World, Output, Breaks}
use Rattle.pg_cmd_base.specs.declared.refusal.Refusal.{Refusal}
use Rattle.pg_cmd_base.specs.declared.status.Status.{Status}
use Rattle.pg_cmd_base.specs.declared.status.Status.TheVariants as status
use Rattle.pg_cmd_plain.specs.Bare.{BareRun, reached}
use Rattle.pg_out_steps.specs.Traces.{PutsSome}
use Rattle.pg_out_steps.specs.declared.shows.Shows.{Shows}
use Rattle.pg_out_steps.specs.declared.shows.Telling.{Telling}
use Rattle.pg_out_steps.specs.declared.tracing.TraceFault.{TraceFault}
use Rattle.pg_out_steps.specs.declared.tracing.TraceFault.TheVariants as fault
use Rattle.pg_prog_base.specs.Either.{EitherDue}
use Rattle.pg_prog_trace.specs.Done.{IsText, PutsText}
use Rattle.pg_prog_trace.specs.Judging.{monitor_of}
use Rattle.pg_prog_trace.specs.Plans.{kept_beside, planned_run, RunDue}
use Rattle.pg_prog_trace.specs.Until.{IsPart}
use Rattle.pg_prog_trace.specs.declared.request.TraceWords.{TraceWords}
use Rattle.pg_prog_trace.specs.declared.request.Until.{Until}
use Rattle.pg_prog_trace.specs.declared.work.Work.{Work}

-- ---- what is due

-- a run, and what is kept of the certificate of its machine where one is named
pub record TraceWork : Type 0 where
  pub run : BareRun
  pub report : Option Report

-- the certificate, where one is named, and then the work
abbrev pub behind_run : Option (List ℕ) → Option Files → BareRun → Step Refusal TraceWork
behind_run None told run = Gives (record { run = run; report = None })
behind_run (Some cert) told run = Then (EitherDue run.desc told cert) (λ report. Gives (record { run = run; report = Some report }))

-- the run beside the cells that a monitor keeps, and then the certificate
unfoldable pub TraceDue : Option (List ℕ) → BareWords → Option Files → Step Refusal TraceWork
TraceDue cert b told = Then (RunDue (kept_beside cert) b told) (behind_run cert told)

-- ---- what is put

-- what is told of each step: of a monitor where a certificate is named
abbrev pub telling_by : Shows → Option Report → Telling
telling_by shows None = record { shows = shows; monitor = None }
telling_by shows (Some report) = record { shows = shows; monitor = Some (monitor_of report.family) }

-- a front of the text of a run was put: of the lines of some of its first steps, or of the whole
abbrev pub PutsFront : Telling → BareRun → (was now : Option (List ℕ)) → Type 0
PutsFront t r was now =
    PutsSome t r.desc r.steps (power_on r.image r.grant) was now ⊎ ((text : List ℕ) × IsText t r text × BothTold was now (AddsFront text))

-- the part of a run that is done was done: its text was put whole, and its state is reached
pub record PutsPart (t : Telling) (until : Option Until) (whole : BareRun) (was now : Option (List ℕ)) (state : State) : Type 0 where
  pub run : BareRun
  pub part : IsPart until whole run
  pub put : PutsText t run was now
  pub reached : state ≡ reached run

-- a front of its text was put
pub record PutsPartFront (t : Telling) (until : Option Until) (whole : BareRun) (was now : Option (List ℕ)) : Type 0 where
  pub run : BareRun
  pub part : IsPart until whole run
  pub front : PutsFront t run was now

-- what a fault leaves: a front of its text; of memory nothing, too
abbrev pub BreaksPart : Telling → Option Until → BareRun → Output → Output → TraceFault → Type 0
BreaksPart t until whole old new fault.Output = PutsPartFront t until whole old.written new.written
BreaksPart t until whole old new fault.Memory = PutsPartFront t until whole old.written new.written ⊎ (new ≡ old)

-- the run is done: no certificate is named, or it accepts the machine
abbrev pub LetsRun : TraceWork → Type 0
LetsRun w = IfSome w.report (λ report. verdict_on (record { desc = w.run.desc; report = report }) ≡ Accepted)

-- it is not: the certificate that is named does not accept the machine
pub record ForbidsRun (w : TraceWork) (j : Judged) : Type 0 where
  pub named : w.report ≡ Some j.report
  pub desc : j.desc ≡ w.run.desc
  pub other : verdict_on j ≢ Accepted

-- ---- what the work leaves of a sink and of a hardware

-- the run was done, up to where a condition first holds if one is named, and its text put whole
pub record RunShown (shows : Shows) (until : Option Until) (w : TraceWork) (old new : Output) (hw : Machinery) (given : Status) : Type 0 where
  pub lets : LetsRun w
  pub status : given ≡ status.Done
  pub put : PutsPart (telling_by shows w.report) until w.run old.written new.written hw.state

-- it broke off at a fault
pub record RunBroken (shows : Shows) (until : Option Until) (w : TraceWork) (old new : Output) (why : TraceFault) : Type 0 where
  pub lets : LetsRun w
  pub left : BreaksPart (telling_by shows w.report) until w.run old new why

-- the verdict was told in place of it, and the hardware not touched
pub record VerdictShown (w : TraceWork) (old new : Output) (before after : Machinery) (given : Status) : Type 0 where
  pub judged : Judged
  pub forbids : ForbidsRun w judged
  pub told : ToldWhole judged old new given
  pub untouched : after ≡ before

-- a put failed in the verdict
pub record VerdictBroken (w : TraceWork) (old new : Output) (before after : Machinery) : Type 0 where
  pub judged : Judged
  pub forbids : ForbidsRun w judged
  pub broken : Breaks (verdict_told judged) old new
  pub untouched : after ≡ before

-- by the class of the status: memory may be refused for the hardware, for the counts or for a line
abbrev pub WorkLeaves : Shows → Option Until → TraceWork → Output → Output → Machinery → Machinery → Status → Class → Type 0
WorkLeaves shows until w old new before after given Ended = RunShown shows until w old new after given ⊎ VerdictShown w old new before after given
WorkLeaves shows until w old new before after given Unwritten =
    (Rose old.faults new.faults × RunBroken shows until w old new fault.Output) ⊎ VerdictBroken w old new before after
WorkLeaves shows until w old new before after given Unread = ⊥
WorkLeaves shows until w old new before after given OutOfMemory = RunBroken shows until w old new fault.Memory

-- what work leaves, of whatever form
abbrev pub Leaving : Type 1
Leaving = TraceWork → Output → Output → Machinery → Machinery → Status → Class → Type 0

-- the run was done
pub record FormShown (w : TraceWork) (given : Status) : Type 0 where
  pub lets : LetsRun w
  pub status : given ≡ status.Done

-- as JSON or as a dump: the verdict is told as beside the text, and of the run nothing is said here but that it was to be done, and
-- that a put failed where it could not be written
abbrev pub FormLeaves : Leaving
FormLeaves w old new before after given Ended = FormShown w given ⊎ VerdictShown w old new before after given
FormLeaves w old new before after given Unwritten = (Rose old.faults new.faults × LetsRun w) ⊎ VerdictBroken w old new before after
FormLeaves w old new before after given Unread = ⊥
FormLeaves w old new before after given OutOfMemory = LetsRun w

-- ---- the program

-- the command that it is, up to its work
abbrev pub trace_command : TraceWords → Command
trace_command w = record {
  Work = TraceWork;
  due = TraceDue w.cert w.bare;
  saved = None;
  ends = λ work old new given text. WorkLeaves w.shows w.until work old.out new.out old.hw new.hw given Ended;
  unsaved = λ work old new. ⊥;
  starved = λ work old new. WorkLeaves w.shows w.until work old.out new.out old.hw new.hw status.Memory OutOfMemory;
}

-- this work was due, and left that; no file was saved, and the verdict of its certificate means what it says
pub record Works (Leaves : Leaving) (w : TraceWords) (old new : World) (given : Status) (class : Class) : Type 0 where
  pub work : TraceWork
  pub is_due : TraceDue w.cert w.bare old.files (Came work)
  pub left : Leaves work old.out new.out old.hw new.hw given class
  pub means : IfSome work.report (λ report. VerdictMeans work.run.desc report)
  pub files : new.files ≡ old.files
  pub saves : new.save_faults ≡ old.save_faults

abbrev pub TracesAs : Leaving → TraceWords → World → World → Status → Class → Type 0
TracesAs Leaves w old new given Ended = EndsRefused (trace_command w) old new given ⊎ Works Leaves w old new given Ended
TracesAs Leaves w old new given Unwritten = BreaksRefused (trace_command w) old new ⊎ Works Leaves w old new given Unwritten
TracesAs Leaves w old new given Unread = Misreads (trace_command w) old new
TracesAs Leaves w old new given OutOfMemory = StarvesBefore old new ⊎ Works Leaves w old new given OutOfMemory

-- what the program with these words made of the world, by the class of the status
pub record Traces (w : TraceWords) (old new : World) (given : Status) : Type 0 where
  pub by_class : TracesAs (WorkLeaves w.shows w.until) w old new given (class_of given)

-- the same where its words ask for JSON or a dump
pub record TracesForm (w : TraceWords) (old new : World) (given : Status) : Type 0 where
  pub by_class : TracesAs FormLeaves w old new given (class_of given)

-- what the code has for the work, as that of the definition
abbrev pub trace_work : Work → TraceWork
trace_work w = record { run = planned_run w.plan; report = w.report }
