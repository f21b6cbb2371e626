-- `run`: what it leaves, by the verdict of its certificate.
use Rattle.std.proofs.Common.{◌≡◌, ◌∙◌, ap, List, All, length, map, ℕ, Option, refl, sym, subst}
use Rattle.pg_cert.specs.declared.cert.Family.{Family}
use Rattle.pg_cert.specs.declared.cert.Family.TheVariants.{Plain}
use Rattle.pg_cert.specs.declared.report.Verdict.TheVariants.{Accepted}
use Rattle.pg_cli_table.specs.declared.run.RunWords.{RunWords}
use Rattle.pg_edge.specs.Shelf.{Files}
use Rattle.pg_lang_meaning.specs.Steps.{bare}
use Rattle.pg_ast.specs.declared.tree.Desc.{Desc}
use Rattle.pg_hw.specs.Machinery.{Machinery}
use Rattle.pg_mon_control.specs.declared.guest.Guest.{Guest}
use Rattle.pg_mon_control.specs.Guests.{virtuals}
use Rattle.pg_report.specs.Runs.{run_text}
use Rattle.pg_run_guests.specs.declared.running.Ran.{Ran}
use Rattle.pg_run_guests.specs.HaveRun.{HaveRun}
use Rattle.pg_run_guests.specs.UnderMonitor.{RanGuests}
use Rattle.pg_run_guests.proofs.ToldLemmas.{text-is}
use Rattle.pg_run_guests.specs.Runs.{GuestRun, reached_by, text_of}
use Rattle.pg_type.specs.Accepting.{IsAccepted}
use Rattle.pg_cmd_base.specs.declared.status.Status.TheVariants.{Done}
use Rattle.pg_cmd_certs.specs.Judged.{verdict_on, verdict_status, verdict_told}
use Rattle.pg_cmd_certs.proofs.JudgedLemmas.{IsRead}
use Rattle.pg_cmd_certs.proofs.TellingLemmas.{ends-told, ends-left, verdict-ends}
use Rattle.pg_cmd_base.specs.Steps.{Came}
use Rattle.pg_cmd_base.specs.World.{World, IsUntouched}
use Rattle.pg_cmd_run.specs.Run.{JudgedRun, RunDue, GuestsEnd, RunEnds, files_of, guests_in, judged_by}
use Rattle.pg_cmd_run.proofs.LoadingLemmas.{guests-read}

-- the certificate was read
pub run-read : (family : Family) (told : Option Files) (r : RunWords) (j : JudgedRun) → RunDue family r told (Came j) → IsRead family (judged_by j)
unfolding RunDue
run-read family told r j h = subst (λ (x : JudgedRun). IsRead family (judged_by x)) (sym h.2) (guests-read family (files_of r) told h.0 h.1)

-- the verdict was told, and nothing ran
pub run-told : (told : Option Files) (r : RunWords) (j : JudgedRun) (old new : World) → RunDue Plain r told (Came j) → ¬ (verdict_on (judged_by j) ≡ Accepted) → IsUntouched old new →
    RunEnds j old new (verdict_status (verdict_on (judged_by j))) (verdict_told (judged_by j))
run-told told r j old new due other same = record {
  by_verdict = ends-told (verdict_on (judged_by j)) (GuestsEnd j) Plain (judged_by j) old new _ _ other (verdict-ends Plain (judged_by j) old new (run-read Plain told r j due) same);
}

-- the guests ran
pub run-ran : (j : JudgedRun) (old new : World) → verdict_on (judged_by j) ≡ Accepted → IsAccepted j.desc → All (λ image. length image ≡ j.grant) j.images →
    reached_by (guests_in j) ≡ map (λ (image : List ℕ). bare j.desc image (length image) j.steps) j.images → RanGuests (guests_in j) old.hw new.hw → new.files ≡ old.files →
    new.save_faults ≡ old.save_faults → RunEnds j old new Done (text_of (guests_in j))
run-ran j old new is accepted filled reached ran files saves = record {
  by_verdict = ends-left (verdict_on (judged_by j)) (GuestsEnd j) Plain (judged_by j) old new Done (text_of (guests_in j)) is
      (record { status = refl; accepted = accepted; granted = filled; reached = reached; wording = refl; ran = ran; files = files; saves = saves });
}

-- what is told of guests that ran is the text of their run
pub ran-text : (r : GuestRun) (ran : Ran) (h : Machinery) (guests : List Guest) (turns direct : ℕ) → HaveRun r ran h → guests ≡ ran.monitor.guests → turns ≡ ran.turns →
    direct ≡ ran.direct → run_text r.desc.word (virtuals h.state.cells guests) turns direct ≡ text_of r
ran-text r ran h guests turns direct have are_guests are_turns are_direct =
    ap (λ gs. run_text r.desc.word (virtuals h.state.cells gs) turns direct) are_guests
    ∙ ap (λ n. run_text r.desc.word (virtuals h.state.cells ran.monitor.guests) n direct) are_turns
    ∙ ap (run_text r.desc.word (virtuals h.state.cells ran.monitor.guests) ran.turns) are_direct
    ∙ ap (λ (d : Desc). run_text d.word (virtuals h.state.cells ran.monitor.guests) ran.turns ran.direct) (sym have.machine)
    ∙ text-is r ran h have
