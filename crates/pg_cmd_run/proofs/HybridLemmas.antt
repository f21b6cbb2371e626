-- `hybrid`: what it leaves, by the verdict of its certificate.
use Rattle.std.proofs.Common.{◌≡◌, ◌∙◌, ap, List, All, length, map, ℕ, Option, refl, sym}
use Rattle.pg_cert.specs.declared.cert.Family.TheVariants.{Hybrid}
use Rattle.pg_cert.specs.declared.report.Verdict.TheVariants.{Accepted}
use Rattle.pg_cli_table.specs.declared.run.RunWords.{RunWords}
use Rattle.pg_edge.specs.Shelf.{Files}
use Rattle.pg_ast.specs.declared.tree.Desc.{Desc}
use Rattle.pg_hw.specs.Machinery.{Machinery}
use Rattle.pg_mon_control.specs.declared.guest.Guest.{Guest}
use Rattle.pg_mon_control.specs.Guests.{virtuals}
use Rattle.pg_lang_meaning.specs.Steps.{bare}
use Rattle.pg_report.specs.Runs.{run_text}
use Rattle.pg_run_guests.specs.declared.hybrid_running.HybridRan.{HybridRan}
use Rattle.pg_run_guests.specs.HaveRunHybrid.{HaveRunHybrid}
use Rattle.pg_run_guests.specs.UnderHybrid.{RanHybrid, hybrid_text}
use Rattle.pg_run_guests.proofs.HybridToldLemmas.{hybrid-text-is}
use Rattle.pg_run_guests.specs.Runs.{GuestRun, reached_by}
use Rattle.pg_type.specs.Accepting.{IsHybridAccepted}
use Rattle.pg_cmd_base.specs.declared.status.Status.TheVariants.{Done}
use Rattle.pg_cmd_certs.specs.Judged.{verdict_on, verdict_status, verdict_told}
use Rattle.pg_cmd_certs.proofs.TellingLemmas.{ends-told, ends-left, verdict-ends}
use Rattle.pg_cmd_base.specs.Steps.{Came}
use Rattle.pg_cmd_base.specs.World.{World, IsUntouched}
use Rattle.pg_cmd_run.specs.Hybrid.{HybridsEnd, HybridEnds}
use Rattle.pg_cmd_run.specs.Run.{JudgedRun, RunDue, guests_in, judged_by}
use Rattle.pg_cmd_run.proofs.EndsLemmas.{run-read}

-- the verdict was told, and nothing ran
pub hybrid-told : (told : Option Files) (r : RunWords) (j : JudgedRun) (old new : World) → RunDue Hybrid r told (Came j) → ¬ (verdict_on (judged_by j) ≡ Accepted) → IsUntouched old new →
    HybridEnds j old new (verdict_status (verdict_on (judged_by j))) (verdict_told (judged_by j))
hybrid-told told r j old new due other same = record {
  by_verdict = ends-told (verdict_on (judged_by j)) (HybridsEnd j) Hybrid (judged_by j) old new _ _ other (verdict-ends Hybrid (judged_by j) old new (run-read Hybrid told r j due) same);
}

-- the guests ran
pub hybrid-ran : (j : JudgedRun) (old new : World) → verdict_on (judged_by j) ≡ Accepted → IsHybridAccepted j.desc → All (λ image. length image ≡ j.grant) j.images →
    reached_by (guests_in j) ≡ map (λ (image : List ℕ). bare j.desc image (length image) j.steps) j.images → RanHybrid (guests_in j) old.hw new.hw → new.files ≡ old.files →
    new.save_faults ≡ old.save_faults → HybridEnds j old new Done (hybrid_text (guests_in j))
hybrid-ran j old new is accepted filled reached ran files saves = record {
  by_verdict = ends-left (verdict_on (judged_by j)) (HybridsEnd j) Hybrid (judged_by j) old new Done (hybrid_text (guests_in j)) is
      (record { status = refl; accepted = accepted; granted = filled; reached = reached; wording = refl; ran = ran; files = files; saves = saves });
}

-- what is told of guests that ran is the text of their run
pub hybrid-ran-text : (r : GuestRun) (ran : HybridRan) (h : Machinery) (guests : List Guest) (turns direct : ℕ) → HaveRunHybrid r ran h → guests ≡ ran.hybrid.guests → turns ≡ ran.turns →
    direct ≡ ran.direct → run_text r.desc.word (virtuals h.state.cells guests) turns direct ≡ hybrid_text r
hybrid-ran-text r ran h guests turns direct have are_guests are_turns are_direct =
    ap (λ gs. run_text r.desc.word (virtuals h.state.cells gs) turns direct) are_guests
    ∙ ap (λ n. run_text r.desc.word (virtuals h.state.cells ran.hybrid.guests) n direct) are_turns
    ∙ ap (run_text r.desc.word (virtuals h.state.cells ran.hybrid.guests) ran.turns) are_direct
    ∙ ap (λ (d : Desc). run_text d.word (virtuals h.state.cells ran.hybrid.guests) ran.turns ran.direct) (sym have.machine)
    ∙ hybrid-text-is r ran h have
