-- `resume`: a saved guest that goes on under a monitor.
use Rattle.std.specs.Prelude.{◌≡◌, ◌+◌, ◌-◌, ℕ, List, [], ◌∷◌, ◌++◌, length, Option, None}
use Rattle.pg_alloc.specs.Fit.{kept_cells}
use Rattle.pg_cli_table.specs.declared.resume.ResumeWords.{ResumeWords}
use Rattle.pg_ast.specs.declared.tree.Desc.{Desc}
use Rattle.pg_cert.specs.declared.cert.Family.TheVariants.{Plain}
use Rattle.pg_cert.specs.declared.report.Report.{Report}
use Rattle.pg_cert.specs.declared.report.Verdict.TheVariants as verdict
use Rattle.pg_edge.specs.Shelf.{Files}
use Rattle.pg_run_guests.specs.UnderMonitor.{RanGuests}
use Rattle.pg_cmd_base.specs.Descriptions.{DescDue}
use Rattle.pg_cmd_certs.specs.Certificates.{CertDue}
use Rattle.pg_cmd_certs.specs.Judged.{Judged, verdict_on}
use Rattle.pg_cmd_certs.specs.Telling.{EndsBy}
use Rattle.pg_lang_meaning.specs.States.{State}
use Rattle.pg_lang_meaning.specs.Steps.{bare, steps}
use Rattle.pg_move.specs.Texts.{SavedGuest}
use Rattle.pg_report.specs.Runs.{run_text, total_line}
use Rattle.pg_run_guests.specs.Runs.{GuestRun, direct_turns_of}
use Rattle.pg_run_guests.specs.Setting.{SetUp}
use Rattle.pg_cmd_base.specs.declared.refusal.Refusal.{Refusal}
use Rattle.pg_cmd_base.specs.declared.status.Status.{Status}
use Rattle.pg_cmd_base.specs.declared.status.Status.TheVariants as status
use Rattle.pg_cmd_base.specs.Commands.{Command}
use Rattle.pg_cmd_base.specs.Rooms.{RoomDue}
use Rattle.pg_cmd_base.specs.Steps.{Step, Then, Gives}
use Rattle.pg_cmd_base.specs.World.{World}
use Rattle.pg_cmd_save.specs.Save.{one_slice}
use Rattle.pg_cmd_save.specs.SavedFiles.{SavedDue}
use Rattle.pg_type.specs.Accepting.{IsAccepted}

-- a guest that is to go on: its state and how many steps it has made, how many cells are held before its own, how many steps it
-- makes, and what is kept of the certificate by which it may run
pub record ResumeRun : Type 0 where
  pub desc : Desc
  pub saved : SavedGuest
  pub skip : ℕ
  pub steps : ℕ
  pub report : Report

-- the certificate, and then the guest goes on
abbrev pub behind_room : ResumeWords → Option Files → Desc → SavedGuest → Step Refusal ResumeRun
behind_room r told d g =
    Then (CertDue d Plain told r.cert) (λ report. Gives (record { desc = d; saved = g; skip = r.skip; steps = r.steps; report = report }))

-- the room for it and for what is held, beside the cells that a monitor keeps, and what is behind that
abbrev pub behind_saved : ResumeWords → Option Files → Desc → SavedGuest → Step Refusal ResumeRun
behind_saved r told d g = Then (RoomDue (length g.state.cells + r.skip) (d.size - kept_cells)) (λ cells. behind_room r told d g)

-- the saved guest, and what is behind it
abbrev pub behind_desc : ResumeWords → Option Files → Desc → Step Refusal ResumeRun
behind_desc r told d = Then (SavedDue told r.saved d) (behind_saved r told d)

-- the description, the saved guest, the room and the certificate, and then the guest goes on
unfoldable pub ResumeDue : ResumeWords → Option Files → Step Refusal ResumeRun
ResumeDue r told = Then (DescDue told r.desc) (behind_desc r told)

-- the run of its guest, behind the cells that a monitor keeps and those that are held
abbrev pub guest_on : ResumeRun → GuestRun
guest_on j = record { desc = j.desc; first = kept_cells + j.skip; states = j.saved.state ∷ []; slice = one_slice; steps = j.steps }

-- the state that a machine of its own reaches from the saved one
abbrev pub reached_on : ResumeRun → State
reached_on j = steps j.desc j.steps j.saved.state

-- the text that is put: the state that is reached, the counts of turns, and all the steps that were made
abbrev pub told_on : ResumeRun → List ℕ
told_on j = run_text j.desc.word (reached_on j ∷ []) j.steps (direct_turns_of (guest_on j)) ++ total_line (j.saved.steps + j.steps)

-- the description, and what is kept of the certificate of it
abbrev pub judged_on : ResumeRun → Judged
judged_on j = record { desc = j.desc; report = j.report }

-- the guest went on: every sensitive instruction of the machine is privileged, and the text is that of the state that is reached
-- from the saved one, and of all the steps that were made. One that a bare machine reached in so many steps has become the one
-- that it reaches in so many more; no file was saved
pub record GuestWentOn (j : ResumeRun) (old new : World) (given : Status) (text : List ℕ) : Type 0 where
  pub status : given ≡ status.Done
  pub accepted : IsAccepted j.desc
  pub goes_on : (image : List ℕ) (grant made : ℕ) → j.saved.state ≡ bare j.desc image grant made → reached_on j ≡ bare j.desc image grant (made + j.steps)
  pub wording : text ≡ told_on j
  pub ran : RanGuests (guest_on j) old.hw new.hw
  pub files : new.files ≡ old.files
  pub saves : new.save_faults ≡ old.save_faults

-- by the verdict of the certificate: the guest went on where it accepts the machine; else it is told, as `verify` tells it, and
-- nothing ran
pub record ResumeEnds (j : ResumeRun) (old new : World) (given : Status) (text : List ℕ) : Type 0 where
  pub by_verdict : EndsBy (verdict_on (judged_on j)) (GuestWentOn j) Plain (judged_on j) old new given text

-- without memory for the storage, the monitor or the guest nothing was put, no file saved and no turn made; it is taken only where
-- the verdict accepts the machine
pub record ResumeStarves (j : ResumeRun) (old new : World) : Type 0 where
  pub accepted : verdict_on (judged_on j) ≡ verdict.Accepted
  pub silent : new.out ≡ old.out
  pub files : new.files ≡ old.files
  pub saves : new.save_faults ≡ old.save_faults
  pub set_up : SetUp (guest_on j) old.hw new.hw

abbrev pub resume_command : ResumeWords → Command
resume_command r = record {
  Work = ResumeRun;
  due = ResumeDue r;
  saved = None;
  ends = ResumeEnds;
  unsaved = λ j old new. ⊥;
  starved = ResumeStarves;
}
