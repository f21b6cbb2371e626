use Rattle.std.proofs.Common.{◌≡◌, ◌≢◌, ◌+◌, [], length, Err, refl, sym, ap, subst, ◌∙◌, arith, rules}
use Rattle.std.specs.Prelude.{vec_len}
use Rattle.std.specs.Result.{IsOk}
use Rattle.std.proofs.lemmas.Bool.{eqb-true}
use Rattle.pg_cert.specs.declared.report.Report.{Report}
use Rattle.pg_edge.specs.Shelf.{LacksFile, HoldsPart}
use Rattle.pg_report.specs.declared.line.CertificateLine.TheVariants as told_line
use Rattle.pg_report.specs.declared.line.RefusalLine.TheVariants.{Certificate}
use Rattle.pg_verify.specs.declared.fault.VerifyFault.TheVariants as fault
use Rattle.pg_verify.specs.Feeding.{most_bytes, fed}
use Rattle.pg_verify.specs.Taking.{then_take}
use Rattle.pg_cmd_base.specs.Answering.{Comes}
use Rattle.pg_cmd_certs.specs.Certificates.{CertTextDue, CertDue}
use Rattle.pg_cmd_certs.specs.Parts.{IsFed}
use Rattle.pg_cmd_base.proofs.FileLemmas.{file-stops}
use Rattle.pg_cmd_base.proofs.StepLemmas.{rose-within}
use Rattle.pg_cmd_certs.proofs.PartLemmas.{no_bytes, none_fed, more_fed, ok_within, part_stops, ok_came, ok_stops}
use Rattle.pg_cmd_certs.proofs.certified.verify_parts.Goals as goal

pub parts-init : goal.parts-init
parts-init g c = record {
  fed =
      subst (λ r. IsFed c.args.machine.now.desc c.args.family (g.F.Shelf.files c.args.shelf.now) c.args.name.now 0 r) (sym c.verifier_of-verifier.ensures)
      (none_fed c.args.machine.now.desc c.args.family (g.F.Shelf.files c.args.shelf.now) c.args.name.now c.requires);
  some = subst (λ r. IsOk r) (sym c.verifier_of-verifier.ensures) refl;
  within = omega arith;
  reads = record { same_files = refl; same_saves = refl; later = omega arith };
}

pub returns-in-Err-clause-comes : goal.returns-in-Err-clause-comes
unfolding CertDue
returns-in-Err-clause-comes g c =
    let d = c.args.machine.now.desc in
    let told = g.F.Shelf.files c.args.shelf.now in
    let before = g.F.Shelf.reads c.args.shelf.now in
    let after = g.F.Shelf.reads c.load_part.new.shelf in
    let was = c.parts.invariant.reads in
    subst (λ s. Comes (λ (r : Report). r) (CertDue d c.args.family told c.args.name.now) before after (Err s)) (sym c.stop_of.ensures)
    (file-stops (λ (r : Report). r) Certificate told c.args.name.now most_bytes told_line.Long (CertTextDue d c.args.family) before after c.in-Err.fault
    (λ e. subst (λ files. LacksFile files c.args.name.now) was.same_files (c.in-Err.ensures.missing (ap Err e))) (λ e. absurd (c.in-Err.ensures.long (ap Err e)))
    (λ e. rose-within before (g.F.Shelf.reads c.parts.shelf) after after was.later (omega arith) (c.in-Err.ensures.failed (ap Err e))))

pub returns-in-Err-feed-clause-comes : goal.returns-in-Err-feed-clause-comes
returns-in-Err-feed-clause-comes g c =
    let d = c.args.machine.now.desc in
    let told = g.F.Shelf.files c.args.shelf.now in
    let part = c.in-Ok.part.items in
    let held = subst (λ files. HoldsPart files c.args.name.now c.parts.at part) c.parts.invariant.reads.same_files c.in-Ok.ensures.ok in
    let due = subst (λ bs. c.in-Err-feed.fault ≢ fault.Memory → then_take c.parts.verifier (λ p. fed p bs) ≡ Err c.in-Err-feed.fault) c.deref.ensures.value c.in-Err-feed.ensures.due in
    part_stops d c.args.family told c.args.name.now part c.parts.at c.parts.verifier c.in-Err-feed.fault c.stop_of_text.result _ _ c.requires c.parts.invariant.fed held due c.stop_of_text.ensures

pub parts-preserved : goal.parts-preserved
parts-preserved g c =
    let d = c.args.machine.now.desc in
    let told = g.F.Shelf.files c.args.shelf.now in
    let part = c.in-Ok.part.items in
    let held = subst (λ files. HoldsPart files c.args.name.now c.parts.at part) c.parts.invariant.reads.same_files c.in-Ok.ensures.ok in
    let gives = subst (λ bs. then_take c.parts.verifier (λ p. fed p bs) ≡ c.feed.new.self) c.deref.ensures.value c.in-Ok-feed.ensures.fed in
    let more : IsFed d c.args.family told c.args.name.now (c.parts.at + length part) c.feed.new.self =
    more_fed d c.args.family told c.args.name.now part c.parts.at c.parts.verifier c.feed.new.self c.parts.invariant.fed held gives in
    let counted : c.len.result ≡ length part = search rules in
    let fed : IsFed d c.args.family told c.args.name.now (c.parts.at + c.len.result) c.feed.new.self = subst (λ n. IsFed d c.args.family told c.args.name.now (c.parts.at + n) c.feed.new.self) (sym counted) more in
    let was = c.parts.invariant.reads in
    let now = c.load_part.ensures.reads in
    record {
      fed = fed;
      some = c.in-Ok-feed.ensures.some;
      within = ok_within d c.args.family told c.args.name.now (c.parts.at + c.len.result) c.feed.new.self fed c.in-Ok-feed.ensures.some;
      reads = record { same_files = now.same_files ∙ was.same_files; same_saves = now.same_saves ∙ was.same_saves; later = omega (arith, was.later, now.later) };
    }

pub returns-in-Ok-finish-clause-comes : goal.returns-in-Ok-finish-clause-comes
returns-in-Ok-finish-clause-comes g c =
    let d = c.args.machine.now.desc in
    let told = g.F.Shelf.files c.args.shelf.now in
    let part = c.in-Ok.part.items in
    let held = subst (λ files. HoldsPart files c.args.name.now c.parts.at part) c.parts.invariant.reads.same_files c.in-Ok.ensures.ok in
    let counted : vec_len c.in-Ok.part ≡ length part = search rules in
    let empty : part ≡ [] = no_bytes part (sym counted ∙ eqb-true (vec_len c.in-Ok.part) 0 (sym c.is_empty.ensures ∙ c.if-is_empty.true)) in
    ok_came d c.args.family told c.args.name.now c.parts.at c.parts.verifier c.in-Ok-finish.report 0 0 c.parts.invariant.some c.parts.invariant.fed
    (subst (λ bs. HoldsPart told c.args.name.now c.parts.at bs) empty held) c.in-Ok-finish.ensures.due

pub returns-in-Err-finish-clause-comes : goal.returns-in-Err-finish-clause-comes
returns-in-Err-finish-clause-comes g c =
    let d = c.args.machine.now.desc in
    let told = g.F.Shelf.files c.args.shelf.now in
    let part = c.in-Ok.part.items in
    let held = subst (λ files. HoldsPart files c.args.name.now c.parts.at part) c.parts.invariant.reads.same_files c.in-Ok.ensures.ok in
    let counted : vec_len c.in-Ok.part ≡ length part = search rules in
    let empty : part ≡ [] = no_bytes part (sym counted ∙ eqb-true (vec_len c.in-Ok.part) 0 (sym c.is_empty.ensures ∙ c.if-is_empty.true)) in
    ok_stops d c.args.family told c.args.name.now c.parts.at c.parts.verifier c.in-Err-finish.fault c.stop_of_text-in-Err-finish.result _ _ c.parts.invariant.some c.parts.invariant.fed
    (subst (λ bs. HoldsPart told c.args.name.now c.parts.at bs) empty held) c.in-Err-finish.ensures.due c.stop_of_text-in-Err-finish.ensures
