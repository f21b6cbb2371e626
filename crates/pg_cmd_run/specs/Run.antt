-- `run`: images as guests of one monitor, where a certificate says that a monitor may run the machine.
use Rattle.std.specs.Prelude.{◌≡◌, ℕ, List, All, length, map, Option, None}
use Rattle.pg_alloc.specs.Fit.{kept_cells}
use Rattle.pg_ast.specs.declared.tree.Desc.{Desc}
use Rattle.pg_cert.specs.declared.cert.Family.{Family}
use Rattle.pg_cert.specs.declared.cert.Family.TheVariants.{Plain}
use Rattle.pg_cert.specs.declared.report.Report.{Report}
use Rattle.pg_cert.specs.declared.report.Verdict.TheVariants as verdict
use Rattle.pg_cli_table.specs.declared.run.RunWords.{RunWords}
use Rattle.pg_edge.specs.Shelf.{Files}
use Rattle.pg_type.specs.Accepting.{IsAccepted}
use Rattle.pg_run_guests.specs.UnderMonitor.{RanGuests}
use Rattle.pg_lang_meaning.specs.Steps.{bare}
use Rattle.pg_run_guests.specs.Runs.{GuestRun, reached_by, switched_on, text_of}
use Rattle.pg_run_guests.specs.Setting.{SetUp}
use Rattle.pg_cmd_base.specs.declared.status.Status.{Status}
use Rattle.pg_cmd_base.specs.declared.status.Status.TheVariants as status
use Rattle.pg_cmd_base.specs.declared.refusal.Refusal.{Refusal}
use Rattle.pg_cmd_base.specs.Commands.{Command}
use Rattle.pg_cmd_certs.specs.Judged.{Judged, verdict_on}
use Rattle.pg_cmd_base.specs.Steps.{Step, Then, Gives}
use Rattle.pg_cmd_certs.specs.Telling.{EndsBy}
use Rattle.pg_cmd_base.specs.World.{World}
use Rattle.pg_cmd_run.specs.Loading.{GuestFiles, Loaded, GuestsDue}

-- a run that is asked for: images of so many cells each, and what is kept of the certificate by which it may be done
pub record JudgedRun : Type 0 where
  pub desc : Desc
  pub images : List (List ℕ)
  pub slice : ℕ
  pub steps : ℕ
  pub grant : ℕ
  pub report : Report

-- the run of its guests, switched on behind the cells that a monitor keeps
abbrev pub guests_in : JudgedRun → GuestRun
guests_in j = record { desc = j.desc; first = kept_cells; states = switched_on j.images; slice = j.slice; steps = j.steps }

-- the files that the words name
abbrev pub files_of : RunWords → GuestFiles
files_of r = record { desc = r.desc; images = r.images; cert = r.cert; grant = r.grant; kept = kept_cells }

-- the run of what they hold
abbrev pub judged_run_of : RunWords → Loaded → JudgedRun
judged_run_of r l = record { desc = l.desc; images = l.images; slice = r.slice; steps = r.steps; grant = r.grant; report = l.report }

-- description, room, images and a certificate of this family, and then the run
unfoldable pub RunDue : Family → RunWords → Option Files → Step Refusal JudgedRun
RunDue family r told = Then (GuestsDue family (files_of r) told) (λ l. Gives (judged_run_of r l))

-- the description, and what is kept of the certificate of it
abbrev pub judged_by : JudgedRun → Judged
judged_by j = record { desc = j.desc; report = j.report }

-- the guests ran: every sensitive instruction of the machine is privileged, each image has the granted size, and the text is
-- that of the states that bare machines reach, and of the counts of turns; no file was saved
pub record GuestsEnd (j : JudgedRun) (old new : World) (given : Status) (text : List ℕ) : Type 0 where
  pub status : given ≡ status.Done
  pub accepted : IsAccepted j.desc
  pub granted : All (λ image. length image ≡ j.grant) j.images
  pub reached : reached_by (guests_in j) ≡ map (λ image. bare j.desc image (length image) j.steps) j.images
  pub wording : text ≡ text_of (guests_in j)
  pub ran : RanGuests (guests_in j) old.hw new.hw
  pub files : new.files ≡ old.files
  pub saves : new.save_faults ≡ old.save_faults

-- by the verdict of the certificate: the guests ran where it accepts the machine; else it is told, as `verify` tells it, and
-- nothing ran
pub record RunEnds (j : JudgedRun) (old new : World) (given : Status) (text : List ℕ) : Type 0 where
  pub by_verdict : EndsBy (verdict_on (judged_by j)) (GuestsEnd j) Plain (judged_by j) old new given text

-- without memory for the storage, the monitor or a guest nothing was put, no file saved and no turn made; it is taken only where
-- the verdict accepts the machine
pub record RunStarves (j : JudgedRun) (old new : World) : Type 0 where
  pub accepted : verdict_on (judged_by j) ≡ verdict.Accepted
  pub silent : new.out ≡ old.out
  pub files : new.files ≡ old.files
  pub saves : new.save_faults ≡ old.save_faults
  pub set_up : SetUp (guests_in j) old.hw new.hw

abbrev pub run_command : RunWords → Command
run_command r = record {
  Work = JudgedRun;
  due = RunDue Plain r;
  saved = None;
  ends = RunEnds;
  unsaved = λ j old new. ⊥;
  starved = RunStarves;
}
