-- `nest`: an image as the guest of the innermost of one to four monitors, each but the outermost on the guest of the one below it,
-- where a certificate says that a monitor may run the machine.
use Rattle.std.specs.Prelude.{◌≡◌, ◌*◌, ℕ, List, [], ◌∷◌, length, Option, None}
use Rattle.pg_alloc.specs.Fit.{kept_cells}
use Rattle.pg_cli_table.specs.declared.nest.NestWords.{NestWords}
use Rattle.pg_ast.specs.declared.tree.Desc.{Desc}
use Rattle.pg_cert.specs.declared.cert.Family.TheVariants.{Plain}
use Rattle.pg_cert.specs.declared.report.Report.{Report}
use Rattle.pg_cert.specs.declared.report.Verdict.TheVariants as verdict
use Rattle.pg_edge.specs.Shelf.{Files}
use Rattle.pg_cmd_certs.specs.Guests.{GuestFiles, Loaded, GuestDue}
use Rattle.pg_cmd_certs.specs.Judged.{Judged, verdict_on}
use Rattle.pg_cmd_certs.specs.Telling.{EndsBy}
use Rattle.pg_lang_meaning.specs.States.{State}
use Rattle.pg_lang_meaning.specs.Steps.{bare}
use Rattle.pg_run_guests.specs.Nesting.{RanNested, NotStepped, direct_steps}
use Rattle.pg_report.specs.Runs.{run_text}
use Rattle.pg_cmd_base.specs.declared.refusal.Refusal.{Refusal}
use Rattle.pg_cmd_base.specs.declared.status.Status.{Status}
use Rattle.pg_cmd_base.specs.declared.status.Status.TheVariants as status
use Rattle.pg_cmd_base.specs.Commands.{Command}
use Rattle.pg_cmd_base.specs.Steps.{Step, Then, Gives}
use Rattle.pg_cmd_base.specs.World.{World}
use Rattle.pg_type.specs.Accepting.{IsAccepted}

-- a run that is asked for: an image of so many cells, how many monitors there are, how many steps the guest makes, and what is kept
-- of the certificate by which it may be done
pub record NestRun : Type 0 where
  pub desc : Desc
  pub image : List ℕ
  pub grant : ℕ
  pub depth : ℕ
  pub steps : ℕ
  pub report : Report

-- the files that the words name; the guest wants room beside the cells of all monitors
abbrev pub files_of : NestWords → GuestFiles
files_of n = record { desc = n.desc; image = n.image; cert = n.cert; grant = n.grant; kept = kept_cells * n.depth }

-- the run of what they hold
abbrev pub nest_run_of : NestWords → Loaded → NestRun
nest_run_of n l = record { desc = l.desc; image = l.image; grant = n.grant; depth = n.depth; steps = n.steps; report = l.report }

-- the description, the room, the image and the certificate, and then the run
unfoldable pub NestDue : NestWords → Option Files → Step Refusal NestRun
NestDue n told = Then (GuestDue (files_of n) told) (λ l. Gives (nest_run_of n l))

-- the state that a bare machine of the granted size reaches from the image
abbrev pub reached : NestRun → State
reached j = bare j.desc j.image j.grant j.steps

-- the text that is put: the state that is reached, and the counts of steps, those that are made and the direct ones of them
abbrev pub told_of : NestRun → List ℕ
told_of j = run_text j.desc.word (reached j ∷ []) j.steps (direct_steps j.desc j.image j.steps)

-- the description, and what is kept of the certificate of it
abbrev pub judged_by : NestRun → Judged
judged_by j = record { desc = j.desc; report = j.report }

-- *nested-simulation*. The guest ran: every sensitive instruction of the machine is privileged, the image has the granted size, the
-- text is that of the state that a bare machine reaches, and the hardware is one on which that was done under so many monitors;
-- no file was saved
pub record GuestNested (j : NestRun) (old new : World) (given : Status) (text : List ℕ) : Type 0 where
  pub status : given ≡ status.Done
  pub accepted : IsAccepted j.desc
  pub granted : length j.image ≡ j.grant
  pub wording : text ≡ told_of j
  pub ran : RanNested j.depth j.desc j.image j.steps old.hw new.hw
  pub files : new.files ≡ old.files
  pub saves : new.save_faults ≡ old.save_faults

-- by the verdict of the certificate: the guest ran where it accepts the machine; else it is told, as `verify` tells it, and nothing
-- ran
pub record NestEnds (j : NestRun) (old new : World) (given : Status) (text : List ℕ) : Type 0 where
  pub by_verdict : EndsBy (verdict_on (judged_by j)) (GuestNested j) Plain (judged_by j) old new given text

-- without memory for the storage, the machines, the monitors or the guest nothing was put, no file saved and no step made; memory is
-- taken only where the verdict accepts the machine. What some of the monitors have set up by then is not said
pub record NestStarves (j : NestRun) (old new : World) : Type 0 where
  pub accepted : verdict_on (judged_by j) ≡ verdict.Accepted
  pub silent : new.out ≡ old.out
  pub files : new.files ≡ old.files
  pub saves : new.save_faults ≡ old.save_faults
  pub stepped : NotStepped old.hw new.hw

abbrev pub nest_command : NestWords → Command
nest_command n = record {
  Work = NestRun;
  due = NestDue n;
  saved = None;
  ends = NestEnds;
  unsaved = λ j old new. ⊥;
  starved = NestStarves;
}
