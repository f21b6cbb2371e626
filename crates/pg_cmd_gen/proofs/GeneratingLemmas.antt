-- `gen`: that its images can run, what its certificate says, what is told of the run, and what is left.
use Rattle.std.proofs.Common.{◌≡◌, ◌∙◌, ℕ, ◌*◌, List, [], ◌∷◌, length, All, None, Some, refl, sym, ap, subst, arith}
use Rattle.std.proofs.lemmas.List.Elements.{All-head, All-tail, All-weaker}
use Rattle.pg_ast.specs.declared.tree.Desc.{Desc}
use Rattle.pg_lang_valid.specs.Valid.{IsValid}
use Rattle.pg_mach_ready.specs.declared.machine.Machine.{Machine}
use Rattle.pg_cert.specs.declared.cert.Family.{Family}
use Rattle.pg_cert.specs.declared.cert.Family.TheVariants.{Plain}
use Rattle.pg_cert.specs.declared.report.Report.{Report}
use Rattle.pg_cert.specs.declared.report.Verdict.{Verdict}
use Rattle.pg_cert.specs.declared.report.Verdict.TheVariants as verdict
use Rattle.pg_cert.specs.Verdicts.{verdict_of}
use Rattle.pg_cli_table.specs.declared.generating.GenWords.{GenWords}
use Rattle.pg_cmd_gen.specs.Generated.{IsGenerated}
use Rattle.pg_cmd_gen.specs.Images.{image_cells, image_count, images_of, IsFilled}
use Rattle.pg_run_guests.specs.declared.running.Ran.{Ran}
use Rattle.pg_run_guests.specs.HaveRun.{HaveRun}
use Rattle.pg_run_guests.proofs.ToldLemmas.{summary-is}
use Rattle.pg_mon_control.specs.declared.guest.Guest.{Guest}
use Rattle.pg_mon_control.specs.Guests.{virtuals}
use Rattle.pg_report.specs.Summaries.{summary_text}
use Rattle.pg_run_guests.specs.Runs.{GuestRun, run_of, summary_of_run}
use Rattle.pg_run_guests.specs.Setting.{CanRun, IsImage, image_cells as cells_in_images}
use Rattle.pg_run_guests.proofs.ReachedLemmas.{can-run}
use Rattle.pg_hw.specs.Machinery.{Machinery}
use Rattle.pg_type.specs.Accepting.{IsAccepted}
use Rattle.pg_cmd_gen.specs.declared.generating.plan.GenPlan.{GenPlan}
use Rattle.pg_cmd_certs.specs.Checked.{IsChecked}
use Rattle.pg_cmd_gen.specs.Generating.{GenEnds, HaveRunBy, RanBy, gen_budget, gen_slice, gen_steps, generated_run, generated_text, run_told}
use Rattle.pg_cmd_certs.specs.Judged.{Judged, verdict_on, verdict_status}
use Rattle.pg_cmd_certs.specs.Saving.{HasSaved}
use Rattle.pg_cmd_certs.specs.Meaning.{IsAcceptedBy, Means}
use Rattle.pg_cmd_gen.specs.Plans.{run_of_plan}
use Rattle.pg_cmd_base.specs.World.{World}
use Rattle.pg_cmd_certs.proofs.SavingLemmas.{is_saved, written_means}

-- ---- there can be a run

filled-cells : (images : List (List ℕ)) → All IsFilled images → cells_in_images images ≡ length images * image_cells
filled-cells [] h = omega arith
filled-cells (image ∷ images) h = omega (arith, (All-head IsFilled image images h).cells, filled-cells images (All-tail IsFilled image images h))

filled-image : (image : List ℕ) → IsFilled image → IsImage 32 image
filled-image image h = record { least = omega (arith, h.cells); words = h.words }

pub input-runs : (number count : ℕ) (m : Machine) (images : List (List ℕ)) → IsGenerated number count m.desc → length images ≡ image_count → All IsFilled images →
    CanRun (run_of m images gen_slice gen_steps)
input-runs number count m images made four filled =
    can-run m images gen_slice gen_steps (subst (λ w. All (IsImage w) images) (sym made.word) (All-weaker IsFilled (IsImage 32) filled-image images filled))
    (omega (arith, made.cells, four, filled-cells images filled)) (omega arith) (omega (arith, four))

-- ---- what its certificate says

pub checked-accepts : (d : Desc) (bytes : List ℕ) (report : Report) → IsValid d → IsChecked d Plain gen_budget bytes report →
    verdict_of report.family report.marks ≡ verdict.Accepted → IsAccepted d
checked-accepts d bytes report valid h is =
    subst (λ (f : Family). IsAcceptedBy f d) h.written.kept_family
    (subst (Means d report) is (written_means d Plain bytes report valid h.written).means)

-- ---- guests at hand

pub have-accepted : (v : Verdict) (r : GuestRun) (ran : Ran) (h : Machinery) → HaveRunBy v r (Some ran) h → HaveRun r ran h × (v ≡ verdict.Accepted)
have-accepted verdict.Accepted r ran h have = (have, refl)
have-accepted (verdict.Refused number) r ran h have = absurd cc
have-accepted (verdict.Unsettled number kind) r ran h have = absurd cc

-- what is told of guests that ran is the summary of their run
ran-summary : (r : GuestRun) (ran : Ran) (h : Machinery) (guests : List Guest) (turns direct : ℕ) → HaveRun r ran h → guests ≡ ran.monitor.guests → turns ≡ ran.turns →
    direct ≡ ran.direct → summary_text r.desc.word (virtuals h.state.cells guests) turns direct ≡ summary_of_run r
ran-summary r ran h guests turns direct have are_guests are_turns are_direct =
    ap (λ gs. summary_text r.desc.word (virtuals h.state.cells gs) turns direct) are_guests
    ∙ ap (λ n. summary_text r.desc.word (virtuals h.state.cells ran.monitor.guests) n direct) are_turns
    ∙ ap (summary_text r.desc.word (virtuals h.state.cells ran.monitor.guests) ran.turns) are_direct
    ∙ ap (λ (d : Desc). summary_text d.word (virtuals h.state.cells ran.monitor.guests) ran.turns ran.direct) (sym have.machine)
    ∙ summary-is r ran h have

pub told-some : (v : Verdict) (r : GuestRun) (ran : Ran) (h : Machinery) (guests : List Guest) (turns direct : ℕ) → HaveRunBy v r (Some ran) h → guests ≡ ran.monitor.guests →
    turns ≡ ran.turns → direct ≡ ran.direct → summary_text r.desc.word (virtuals h.state.cells guests) turns direct ≡ run_told v r
told-some verdict.Accepted r ran h guests turns direct have gs ts ds = ran-summary r ran h guests turns direct have gs ts ds
told-some (verdict.Refused number) r ran h guests turns direct have gs ts ds = absurd cc
told-some (verdict.Unsettled number kind) r ran h guests turns direct have gs ts ds = absurd cc

pub told-none : (v : Verdict) (r : GuestRun) (h : Machinery) → HaveRunBy v r None h → run_told v r ≡ []
told-none verdict.Accepted r h have = absurd have
told-none (verdict.Refused number) r h have = refl
told-none (verdict.Unsettled number kind) r h have = refl

-- the verdict does not let them run
pub not-run : (v : Verdict) (r : GuestRun) (h : Machinery) → ¬ (v ≡ verdict.Accepted) → RanBy v r h h × HaveRunBy v r None h
not-run verdict.Accepted r h other = absurd (other refl)
not-run (verdict.Refused number) r h other = (refl, refl)
not-run (verdict.Unsettled number kind) r h other = (refl, refl)

-- ---- what is left

pub plan-run : (p : GenPlan) (g : GenWords) → p.images ≡ images_of g.number g.count → run_of_plan p ≡ generated_run g p.cert.judged.machine.desc
plan-run p g e = ap (λ (images : List (List ℕ)). run_of p.cert.judged.machine images gen_slice gen_steps) e

module _ (g : GenWords) (j : Judged) (old new : World) (bytes : List ℕ) (valid : IsValid j.desc)
    (h : IsChecked j.desc Plain gen_budget bytes j.report) where
  pub gen-ends : HasSaved g.cert bytes old new → RanBy (verdict_on j) (generated_run g j.desc) old.hw new.hw →
      GenEnds g j.desc old new (verdict_status (verdict_on j)) (generated_text g j.desc (verdict_on j))
  gen-ends saved ran = record {
    bytes = bytes;
    report = j.report;
    checked = h;
    saving = is_saved g.cert Plain old new bytes j valid h.written saved;
    status = refl;
    wording = refl;
    ran = ran;
  }
