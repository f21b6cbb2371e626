-- `save`: an image as a guest of a monitor, and the state that it reaches saved.
use Rattle.std.specs.Prelude.{◌≡◌, ℕ, List, [], ◌∷◌, length, Option, Some}
use Rattle.pg_alloc.specs.Fit.{kept_cells}
use Rattle.pg_cli_table.specs.declared.save.SaveWords.{SaveWords}
use Rattle.pg_ast.specs.declared.tree.Desc.{Desc}
use Rattle.pg_cert.specs.declared.cert.Family.TheVariants.{Plain}
use Rattle.pg_cert.specs.declared.report.Report.{Report}
use Rattle.pg_cert.specs.declared.report.Verdict.TheVariants as verdict
use Rattle.pg_edge.specs.Shelf.{Files}
use Rattle.pg_edge.specs.Told.{BothTold}
use Rattle.pg_run_guests.specs.UnderMonitor.{RanGuests}
use Rattle.pg_cmd_certs.specs.Guests.{GuestFiles, Loaded, GuestDue}
use Rattle.pg_cmd_certs.specs.Judged.{Judged, verdict_on}
use Rattle.pg_cmd_certs.specs.Telling.{EndsBy}
use Rattle.pg_lang_meaning.specs.States.{State, shape_of}
use Rattle.pg_lang_meaning.specs.Steps.{bare, power_on}
use Rattle.pg_move.specs.Texts.{saved_text}
use Rattle.pg_report.specs.Runs.{run_text}
use Rattle.pg_run_guests.specs.Runs.{GuestRun, direct_turns_of}
use Rattle.pg_run_guests.specs.Setting.{SetUp}
use Rattle.pg_cmd_base.specs.declared.refusal.Refusal.{Refusal}
use Rattle.pg_cmd_base.specs.declared.status.Status.{Status}
use Rattle.pg_cmd_base.specs.declared.status.Status.TheVariants as status
use Rattle.pg_cmd_base.specs.Commands.{Command}
use Rattle.pg_cmd_base.specs.Steps.{Step, Then, Gives}
use Rattle.pg_cmd_base.specs.World.{World}
use Rattle.pg_cmd_certs.specs.Saving.{HasSaved, HoldsAtMost}
use Rattle.pg_type.specs.Accepting.{IsAccepted}

-- a run that is asked for: an image of so many cells, how many steps it makes, and what is kept of the certificate by which it
-- may be done
pub record SaveRun : Type 0 where
  pub desc : Desc
  pub image : List ℕ
  pub grant : ℕ
  pub steps : ℕ
  pub report : Report

-- the files that the words name
abbrev pub files_of : SaveWords → GuestFiles
files_of s = record { desc = s.desc; image = s.image; cert = s.cert; grant = s.grant; kept = kept_cells }

-- the run of what they hold
abbrev pub save_run_of : SaveWords → Loaded → SaveRun
save_run_of s l = record { desc = l.desc; image = l.image; grant = s.grant; steps = s.steps; report = l.report }

-- the description, the room, the image and the certificate, and then the run
unfoldable pub SaveDue : SaveWords → Option Files → Step Refusal SaveRun
SaveDue s told = Then (GuestDue (files_of s) told) (λ l. Gives (save_run_of s l))

-- one guest has its turns in one slice
abbrev pub one_slice : ℕ
one_slice = 1000000

-- the run of its guest, switched on behind the cells that a monitor keeps
abbrev pub guest_of : SaveRun → GuestRun
guest_of j = record { desc = j.desc; first = kept_cells; states = power_on j.image (length j.image) ∷ []; slice = one_slice; steps = j.steps }

-- the state that a bare machine of the granted size reaches from the image
abbrev pub reached : SaveRun → State
reached j = bare j.desc j.image j.grant j.steps

-- the text that is saved of it
abbrev pub saved_of : SaveRun → List ℕ
saved_of j = saved_text (shape_of j.desc) j.steps (reached j)

-- the text that is put: the state that is reached, and the counts of turns
abbrev pub told_of_run : SaveRun → List ℕ
told_of_run j = run_text j.desc.word (reached j ∷ []) j.steps (direct_turns_of (guest_of j))

-- the description, and what is kept of the certificate of it
abbrev pub judged_by : SaveRun → Judged
judged_by j = record { desc = j.desc; report = j.report }

-- the guest ran: every sensitive instruction of the machine is privileged, the image has the granted size, the saved text of the
-- state that a bare machine reaches is under the name, and the text is that of this state
pub record GuestSaved (file : List ℕ) (j : SaveRun) (old new : World) (given : Status) (text : List ℕ) : Type 0 where
  pub status : given ≡ status.Done
  pub accepted : IsAccepted j.desc
  pub granted : length j.image ≡ j.grant
  pub saved : HasSaved file (saved_of j) old new
  pub wording : text ≡ told_of_run j
  pub ran : RanGuests (guest_of j) old.hw new.hw

-- by the verdict of the certificate: the guest ran and is saved where it accepts the machine; else it is told, as `verify` tells
-- it, nothing ran, and no file was saved
pub record SaveEnds (file : List ℕ) (j : SaveRun) (old new : World) (given : Status) (text : List ℕ) : Type 0 where
  pub by_verdict : EndsBy (verdict_on (judged_by j)) (GuestSaved file j) Plain (judged_by j) old new given text

-- the guest ran, and the save failed: the file has what it had, or a front of the saved text
pub record SaveUnsaved (file : List ℕ) (j : SaveRun) (old new : World) : Type 0 where
  pub accepted : verdict_on (judged_by j) ≡ verdict.Accepted
  pub left : BothTold old.files new.files (HoldsAtMost file (saved_of j))
  pub ran : RanGuests (guest_of j) old.hw new.hw

-- without memory for the saved text, the storage, the monitor or the guest nothing was put, no file saved and no turn made; it is
-- taken only where the verdict accepts the machine
pub record SaveStarves (j : SaveRun) (old new : World) : Type 0 where
  pub accepted : verdict_on (judged_by j) ≡ verdict.Accepted
  pub silent : new.out ≡ old.out
  pub files : new.files ≡ old.files
  pub saves : new.save_faults ≡ old.save_faults
  pub set_up : SetUp (guest_of j) old.hw new.hw

-- all memory is taken before the first turn
abbrev pub save_command : SaveWords → Command
save_command s = record {
  Work = SaveRun;
  due = SaveDue s;
  saved = Some s.file;
  ends = SaveEnds s.file;
  unsaved = SaveUnsaved s.file;
  starved = SaveStarves;
}
