use Rattle.std.proofs.Common.{◌≡◌, refl, sym, ap, subst, arith, ◌∙◌}
use Rattle.pg_ast.specs.declared.tree.Desc.{Desc}
use Rattle.pg_cert.specs.declared.cert.Family.TheVariants.{Plain}
use Rattle.pg_cert.specs.declared.report.Verdict.TheVariants.{Accepted}
use Rattle.pg_cmd_certs.specs.Judged.{Judged, verdict_on}
use Rattle.pg_cmd_certs.proofs.GuestLemmas.{cert-accepts}
use Rattle.pg_cmd_certs.proofs.JudgedLemmas.{certificate-read}
use Rattle.pg_lang_meaning.specs.States.{shape_of}
use Rattle.pg_move.specs.Seen.{guest_of}
use Rattle.pg_move.specs.Texts.{IsSaved}
use Rattle.pg_cmd_save.specs.Resume.{ResumeRun}
use Rattle.pg_cmd_save.proofs.RunLemmas.{state-runs}
use Rattle.pg_type.specs.Accepting.{IsAccepted}
use Rattle.pg_cmd_save.proofs.resume.preparing.load_behind_room.Goals as goal

pub invariant_of-judged : goal.invariant_of-judged
invariant_of-judged g c =
    let m = c.args.machine in
    let read = certificate-read m.desc Plain (g.F.Shelf.files c.args.shelf.now) c.args.words.now.cert c.in-Ok.report m.valid c.in-Ok.ensures.comes in
    record { whole = read.whole; fit = read.fit }

pub invariant_of-result : goal.invariant_of-result
invariant_of-result g c =
    let of : Judged → Desc = λ j. j.desc in
    let same = ap of c.knowing.ensures in
    let size = ap (λ (d : Desc). d.size) same in
    let saved = subst (λ (d : Desc). IsSaved (shape_of d) (guest_of c.args.saved)) (sym same) c.requires.saved in
    record {
      can_run = state-runs c.knowing.result.machine c.args.saved c.cells-skip.result c.count-steps.result saved (omega (arith, c.requires.room, c.cells-skip.ensures.cells, size))
          (omega (arith, c.count-steps.ensures.count, c.count-steps.ensures.most));
    }

pub returns-in-Ok-clause-comes : goal.returns-in-Ok-clause-comes
returns-in-Ok-clause-comes g c =
    let run : Judged → ResumeRun = λ j. record { desc = j.desc; saved = guest_of c.args.saved; skip = c.cells-skip.result; steps = c.count-steps.result; report = j.report } in
    (c.in-Ok.report, c.in-Ok.ensures.comes, ap run c.knowing.ensures ∙ rw (c.cells-skip.ensures.cells, c.count-steps.ensures.count) refl)

pub returns-in-Ok-clause-accepts : goal.returns-in-Ok-clause-accepts
returns-in-Ok-clause-accepts g c =
    let m = c.args.machine in
    subst (λ (j : Judged). verdict_on j ≡ Accepted → IsAccepted j.desc) (sym c.knowing.ensures)
    (cert-accepts m.desc Plain (g.F.Shelf.files c.args.shelf.now) c.args.words.now.cert c.in-Ok.report m.valid c.in-Ok.ensures.comes)
