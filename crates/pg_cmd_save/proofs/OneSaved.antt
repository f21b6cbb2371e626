-- `save` and `resume` come to one thing, for told files.
use Rattle.std.proofs.Common.{◌≡◌, ◌-◌, ◌+◌, ◌∙◌, ℕ, List, length, Option, None, Some, Result, Ok, Err, sym, ap}
use Rattle.pg_alloc.specs.Fit.{kept_cells}
use Rattle.pg_cli_table.specs.declared.resume.ResumeWords.{ResumeWords}
use Rattle.pg_cli_table.specs.declared.save.SaveWords.{SaveWords}
use Rattle.pg_ast.specs.declared.tree.Desc.{Desc}
use Rattle.pg_cert.specs.declared.cert.Family.TheVariants.{Plain}
use Rattle.pg_edge.specs.Shelf.{Files}
use Rattle.pg_cmd_base.specs.Descriptions.{DescDue}
use Rattle.pg_cmd_base.proofs.OneInput.{one-desc}
use Rattle.pg_cmd_certs.specs.Certificates.{CertDue}
use Rattle.pg_cmd_certs.specs.Guests.{GuestDue}
use Rattle.pg_cmd_certs.proofs.GuestLemmas.{one-guest}
use Rattle.pg_cmd_certs.proofs.OneCertificate.{one-certificate}
use Rattle.pg_lang_meaning.specs.States.{shape_of}
use Rattle.pg_move.specs.declared.fault.SavedFault.{SavedFault}
use Rattle.pg_move.specs.Reading.{saved_due}
use Rattle.pg_move.specs.Texts.{SavedGuest, most_bytes}
use Rattle.pg_report.specs.declared.line.RefusalLine.TheVariants.{Saved}
use Rattle.pg_report.specs.declared.line.SavedLine.{SavedLine}
use Rattle.pg_report.specs.declared.line.SavedLine.TheVariants as told_saved
use Rattle.pg_cmd_base.specs.FileSteps.{FromFile}
use Rattle.pg_cmd_base.specs.Refusals.{of_file}
use Rattle.pg_cmd_base.specs.Rooms.{RoomDue}
use Rattle.pg_cmd_base.specs.Steps.{Gives, IsOne}
use Rattle.pg_cmd_base.proofs.OneRoom.{one-room}
use Rattle.pg_cmd_base.proofs.OneSteps.{one-as, one-file, one-gives, one-then}
use Rattle.pg_cmd_save.specs.Resume as resume
use Rattle.pg_cmd_save.specs.Save.{SaveDue, files_of, save_run_of}
use Rattle.pg_cmd_save.specs.SavedFiles.{ReadsSaved, SavedDue, told_of_saved}

-- ---- a saved guest

abbrev line_answer : Option SavedLine → Result SavedGuest SavedLine
line_answer None = Err told_saved.Long
line_answer (Some line) = Err line

abbrev bytes_answer : Result SavedGuest SavedFault → Result SavedGuest SavedLine
bytes_answer (Ok g) = Ok g
bytes_answer (Err fault) = line_answer (told_of_saved fault)

bytes-only : (d : Desc) (text : List ℕ) (due : Result SavedGuest SavedLine) → ReadsSaved d text due → bytes_answer (saved_due (shape_of d) text) ≡ due
bytes-only d text (Ok g) h = ap bytes_answer h
bytes-only d text (Err line) h = ap bytes_answer h.first ∙ ap line_answer h.told

one-saved : (files : Files) (name : List ℕ) (d : Desc) → IsOne (SavedDue (Some files) name d)
unfolding SavedDue
one-saved files name d =
    one-as (of_file Saved) (FromFile (Some files) name most_bytes told_saved.Long (ReadsSaved d))
    (one-file files name most_bytes told_saved.Long (ReadsSaved d) (λ text r s h k. sym (bytes-only d text r h) ∙ bytes-only d text s k))

-- ---- `save`

pub one-save : (files : Files) (s : SaveWords) → IsOne (SaveDue s (Some files))
unfolding SaveDue
one-save files s = one-then (GuestDue (files_of s) (Some files)) (λ l. Gives (save_run_of s l)) (one-guest files (files_of s)) (λ l. one-gives (save_run_of s l))

-- ---- `resume`

one-behind_cells : (r : ResumeWords) (files : Files) (d : Desc) (g : SavedGuest) → IsOne (resume.behind_room r (Some files) d g)
one-behind_cells r files d g =
    one-then (CertDue d Plain (Some files) r.cert) (λ report. Gives (record { desc = d; saved = g; skip = r.skip; steps = r.steps; report = report }))
    (one-certificate d Plain files r.cert) (λ report. one-gives (record { desc = d; saved = g; skip = r.skip; steps = r.steps; report = report }))

one-behind_saved : (r : ResumeWords) (files : Files) (d : Desc) (g : SavedGuest) → IsOne (resume.behind_saved r (Some files) d g)
one-behind_saved r files d g =
    one-then (RoomDue (length g.state.cells + r.skip) (d.size - kept_cells)) (λ cells. resume.behind_room r (Some files) d g)
    (one-room (length g.state.cells + r.skip) (d.size - kept_cells)) (λ cells. one-behind_cells r files d g)

one-behind_machine : (r : ResumeWords) (files : Files) (d : Desc) → IsOne (resume.behind_desc r (Some files) d)
one-behind_machine r files d = one-then (SavedDue (Some files) r.saved d) (resume.behind_saved r (Some files) d) (one-saved files r.saved d) (one-behind_saved r files d)

pub one-resume : (files : Files) (r : ResumeWords) → IsOne (resume.ResumeDue r (Some files))
unfolding resume.ResumeDue
one-resume files r = one-then (DescDue (Some files) r.desc) (resume.behind_desc r (Some files)) (one-desc files r.desc) (one-behind_machine r files)
