-- What the commands leave, by the verdict of the certificate.
use Rattle.std.proofs.Common.{◌≡◌, ◌∙◌, ℕ, ◌+◌, ◌<◌, ◌≤◌, List, ◌∷◌, ◌++◌, length, Option, refl, sym, ap, subst}
use Rattle.pg_cli_table.specs.declared.resume.ResumeWords.{ResumeWords}
use Rattle.pg_cli_table.specs.declared.save.SaveWords.{SaveWords}
use Rattle.pg_ast.specs.declared.tree.Desc.{Desc}
use Rattle.pg_cert.specs.declared.cert.Family.TheVariants.{Plain}
use Rattle.pg_cert.specs.declared.report.Verdict.TheVariants.{Accepted}
use Rattle.pg_edge.specs.Shelf.{Files}
use Rattle.pg_run_guests.specs.UnderMonitor.{RanGuests}
use Rattle.pg_cmd_certs.proofs.GuestLemmas.{guest-read}
use Rattle.pg_cmd_certs.proofs.JudgedLemmas.{IsRead, certificate-read, desc-valid}
use Rattle.pg_cmd_certs.proofs.TellingLemmas.{ends-told, ends-left, verdict-ends}
use Rattle.pg_cmd_certs.specs.Judged.{verdict_on, verdict_status, verdict_told}
use Rattle.pg_lang_meaning.proofs.StepLaws.{steps-add}
use Rattle.pg_lang_meaning.specs.States.{State}
use Rattle.pg_lang_meaning.specs.Steps.{bare, power_on, steps}
use Rattle.pg_cmd_base.specs.Steps.{Came}
use Rattle.pg_cmd_base.specs.World.{World, IsUntouched}
use Rattle.pg_cmd_base.specs.declared.status.Status.TheVariants.{Done}
use Rattle.pg_cmd_certs.specs.Saving.{HasSaved}
use Rattle.pg_cmd_save.specs.Resume.{ResumeRun, ResumeDue, ResumeEnds, GuestWentOn, guest_on, judged_on, told_on}
use Rattle.pg_cmd_save.specs.Save.{SaveRun, SaveDue, SaveEnds, GuestSaved, files_of, guest_of, judged_by, saved_of, told_of_run}
use Rattle.pg_type.specs.Accepting.{IsAccepted}

-- ---- `save`

-- the certificate was read
pub save-read : (told : Option Files) (s : SaveWords) (j : SaveRun) → SaveDue s told (Came j) → IsRead Plain (judged_by j)
unfolding SaveDue
save-read told s j h = subst (λ (x : SaveRun). IsRead Plain (judged_by x)) (sym h.2) (guest-read (files_of s) told h.0 h.1)

-- the verdict was told, and nothing ran
pub save-told : (told : Option Files) (s : SaveWords) (j : SaveRun) (old new : World) → SaveDue s told (Came j) → ¬ (verdict_on (judged_by j) ≡ Accepted) → IsUntouched old new →
    SaveEnds s.file j old new (verdict_status (verdict_on (judged_by j))) (verdict_told (judged_by j))
save-told told s j old new due other same = record {
  by_verdict = ends-told (verdict_on (judged_by j)) (GuestSaved s.file j) Plain (judged_by j) old new _ _ other (verdict-ends Plain (judged_by j) old new (save-read told s j due) same);
}

-- the guest ran, and is saved
pub save-ran : (file : List ℕ) (j : SaveRun) (old new : World) → verdict_on (judged_by j) ≡ Accepted → IsAccepted j.desc → length j.image ≡ j.grant →
    HasSaved file (saved_of j) old new → RanGuests (guest_of j) old.hw new.hw → SaveEnds file j old new Done (told_of_run j)
save-ran file j old new is accepted granted saved ran = record {
  by_verdict = ends-left (verdict_on (judged_by j)) (GuestSaved file j) Plain (judged_by j) old new Done (told_of_run j) is
      (record { status = refl; accepted = accepted; granted = granted; saved = saved; wording = refl; ran = ran });
}

-- ---- `resume`

-- the certificate was read
pub resume-read : (told : Option Files) (r : ResumeWords) (j : ResumeRun) → ResumeDue r told (Came j) → IsRead Plain (judged_on j)
unfolding ResumeDue
resume-read told r j h =
    subst (λ (x : ResumeRun). IsRead Plain (judged_on x)) (sym h.2.2.2.2)
    (certificate-read h.0 Plain told r.cert h.2.2.2.0 (desc-valid told r.desc h.0 h.1) h.2.2.2.1)

-- the verdict was told, and nothing ran
pub resume-told : (told : Option Files) (r : ResumeWords) (j : ResumeRun) (old new : World) → ResumeDue r told (Came j) → ¬ (verdict_on (judged_on j) ≡ Accepted) → IsUntouched old new →
    ResumeEnds j old new (verdict_status (verdict_on (judged_on j))) (verdict_told (judged_on j))
resume-told told r j old new due other same = record {
  by_verdict = ends-told (verdict_on (judged_on j)) (GuestWentOn j) Plain (judged_on j) old new _ _ other (verdict-ends Plain (judged_on j) old new (resume-read told r j due) same);
}

-- from what a bare machine reaches it goes on to what that reaches in so many steps more
goes-on : (d : Desc) (n : ℕ) (s : State) (image : List ℕ) (grant made : ℕ) → s ≡ bare d image grant made → steps d n s ≡ bare d image grant (made + n)
unfolding bare
goes-on d n s image grant made is = ap (steps d n) is ∙ steps-add d made n (power_on image grant)

-- the guest went on
pub resume-ran : (j : ResumeRun) (old new : World) → verdict_on (judged_on j) ≡ Accepted → IsAccepted j.desc → RanGuests (guest_on j) old.hw new.hw → new.files ≡ old.files →
    new.save_faults ≡ old.save_faults → ResumeEnds j old new Done (told_on j)
resume-ran j old new is accepted ran files saves = record {
  by_verdict = ends-left (verdict_on (judged_on j)) (GuestWentOn j) Plain (judged_on j) old new Done (told_on j) is
      (record {
        status = refl;
        accepted = accepted;
        goes_on = λ image grant made same. goes-on j.desc j.steps j.saved.state image grant made same;
        wording = refl;
        ran = ran;
        files = files;
        saves = saves;
      });
}
