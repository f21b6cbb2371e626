use Rattle.std.proofs.Common.{Err, subst}
use Rattle.pg_mach_ready.specs.declared.machine.Machine.{Machine}
use Rattle.pg_cert.specs.declared.report.Report.{Report}
use Rattle.pg_cmd_base.specs.Answering.{Comes}
use Rattle.pg_cmd_certs.specs.Certificates.{CertDue}
use Rattle.pg_cmd_certs.specs.Views.{judged}
use Rattle.pg_cmd_base.specs.Steps.{Came}
use Rattle.pg_cmd_certs.proofs.JudgedLemmas.{judged-stopped, judged-refused, judged-came, certificate-read}
use Rattle.pg_cmd_certs.proofs.judged.load_judged.Goals as goal

pub returns-in-Err-clause-comes : goal.returns-in-Err-clause-comes
returns-in-Err-clause-comes g c =
    judged-stopped (λ (m : Machine). m.desc) judged c.args.family (g.F.Shelf.files c.args.shelf.now) c.args.desc.now c.args.cert.now _ _ c.in-Err.stop c.in-Err.ensures.comes c.load_machine.ensures.reads.later

pub returns-in-Err-load_certificate-clause-comes : goal.returns-in-Err-load_certificate-clause-comes
returns-in-Err-load_certificate-clause-comes g c =
    let d = c.in-Ok.machine.desc in
    judged-refused (λ (r : Report). r) judged c.args.family (g.F.Shelf.files c.args.shelf.now) c.args.desc.now c.args.cert.now d _ _ _ c.in-Err-load_certificate.stop c.in-Ok.ensures.comes
    c.load_machine.ensures.reads.later
    (subst (λ files. Comes (λ (r : Report). r) (CertDue d c.args.family files c.args.cert.now) (g.F.Shelf.reads c.load_machine.new.shelf) (g.F.Shelf.reads c.load_certificate.new.shelf)
    (Err c.in-Err-load_certificate.stop)) c.load_machine.ensures.reads.same_files c.in-Err-load_certificate.ensures.comes)

pub returns-in-Ok-load_certificate-clause-comes : goal.returns-in-Ok-load_certificate-clause-comes
returns-in-Ok-load_certificate-clause-comes g c =
    let d = c.in-Ok.machine.desc in
    judged-came c.args.family (g.F.Shelf.files c.args.shelf.now) c.args.desc.now c.args.cert.now d c.in-Ok-load_certificate.report c.in-Ok.ensures.comes
    (subst (λ files. CertDue d c.args.family files c.args.cert.now (Came c.in-Ok-load_certificate.report)) c.load_machine.ensures.reads.same_files c.in-Ok-load_certificate.ensures.comes)

pub invariant_of-result : goal.invariant_of-result
invariant_of-result g c =
    let read = certificate-read c.in-Ok.machine.desc c.args.family (g.F.Shelf.files c.load_machine.new.shelf) c.args.cert.now c.in-Ok-load_certificate.report c.in-Ok.machine.valid
    c.in-Ok-load_certificate.ensures.comes in
    record { whole = read.whole; fit = read.fit }
