use Rattle.std.proofs.Common.{◌<◌, Err, sym, ap, subst, arith}
use Rattle.pg_cert.specs.declared.report.Report.{Report}
use Rattle.pg_edge.specs.Shelf.{LacksFile, HasSize}
use Rattle.pg_report.specs.declared.line.CertificateLine.TheVariants as told_line
use Rattle.pg_report.specs.declared.line.RefusalLine.TheVariants.{Certificate}
use Rattle.pg_verify.specs.Feeding.{most_bytes}
use Rattle.pg_cmd_base.specs.Answering.{Comes}
use Rattle.pg_cmd_certs.specs.Certificates.{CertTextDue, CertDue}
use Rattle.pg_cmd_base.proofs.FileLemmas.{file-stops}
use Rattle.pg_cmd_certs.proofs.PartLemmas.{size_stops}
use Rattle.pg_cmd_certs.proofs.certified.try_size.Goals as goal

pub returns-else-size-from-clause-stops : goal.returns-else-size-from-clause-stops
returns-else-size-from-clause-stops g c = λ d family.
    let told = g.F.Shelf.files c.args.shelf.now in
    let longer : most_bytes < c.in-Ok.size = omega (arith, c.if-size-from.false, c.from.ensures) in
    subst (λ s. Comes (λ (r : Report). r) (CertDue d family told c.args.name.now) (g.F.Shelf.reads c.args.shelf.now) (g.F.Shelf.reads c.size.new.self) (Err s)) (sym c.refused.ensures)
    (size_stops d family told c.args.name.now c.in-Ok.size (subst (λ n. HasSize told n c.in-Ok.size) c.as_str.ensures c.in-Ok.ensures.answer.size) longer)

pub returns-in-Err-clause-stops : goal.returns-in-Err-clause-stops
unfolding CertDue
returns-in-Err-clause-stops g c = λ d family.
    let told = g.F.Shelf.files c.args.shelf.now in
    let before = g.F.Shelf.reads c.args.shelf.now in
    let after = g.F.Shelf.reads c.size.new.self in
    subst (λ s. Comes (λ (r : Report). r) (CertDue d family told c.args.name.now) before after (Err s)) (sym c.stop_of.ensures)
    (file-stops (λ (r : Report). r) Certificate told c.args.name.now most_bytes told_line.Long (CertTextDue d family) before after c.in-Err.fault
    (λ e. subst (λ n. LacksFile told n) c.as_str.ensures (c.in-Err.ensures.answer.missing (ap Err e))) (λ e. absurd (c.in-Err.ensures.answer.never_long (ap Err e))) (λ e. c.in-Err.ensures.counted.failed (ap Err e)))
