use Rattle.std.proofs.Common.{Option, Err, ap, subst}
use Rattle.pg_cert.specs.declared.cert.Family.TheVariants.{Plain}
use Rattle.pg_edge.specs.Shelf.{Files}
use Rattle.pg_cmd_certs.specs.Certificates.{CertDue}
use Rattle.pg_cmd_base.specs.Answering.{Comes}
use Rattle.pg_prog_base.proofs.CertLemmas.{unread-comes, comes-later, read-due, read-accepts, read-whole, read-fit}
use Rattle.pg_prog_base.proofs.either.load_either.Goals as goal

pub returns-in-Err-Failed-clause-comes : goal.returns-in-Err-Failed-clause-comes
returns-in-Err-Failed-clause-comes g c =
    let before = g.F.Shelf.reads c.args.shelf.now in
    let after = g.F.Shelf.reads c.family_of.new.shelf in (
      Plain,
      unread-comes c.args.machine.now.desc Plain (g.F.Shelf.files c.args.shelf.now) c.args.name.now before after
          (c.in-Err-Failed.ensures.failed (ap Err c.in-Err-Failed.field-0-is)),
    )

pub returns-in-Err-Memory-clause-comes : goal.returns-in-Err-Memory-clause-comes
returns-in-Err-Memory-clause-comes g c = (Plain, tt)

pub returns-in-Ok-clause-comes : goal.returns-in-Ok-clause-comes
returns-in-Ok-clause-comes g c =
    let d = c.args.machine.now.desc in
    let name = c.args.name.now in
    let before = g.F.Shelf.reads c.args.shelf.now in
    let mid = g.F.Shelf.reads c.family_of.new.shelf in
    let after = g.F.Shelf.reads c.load_certificate.new.shelf in
    let family = c.in-Ok.family in (
      family,
      comes-later (λ report. report) (CertDue d family (g.F.Shelf.files c.args.shelf.now) name) before mid after c.load_certificate.result c.family_of.ensures.reads.later
          (subst (λ (files : Option Files). Comes (λ report. report) (CertDue d family files name) mid after c.load_certificate.result) c.family_of.ensures.reads.same_files
          c.load_certificate.ensures.comes),
    )

pub returns-in-Ok-clause-came : goal.returns-in-Ok-clause-came
returns-in-Ok-clause-came g c =
    let d = c.args.machine.now.desc in
    let name = c.args.name.now in
    let mid = g.F.Shelf.reads c.family_of.new.shelf in
    let after = g.F.Shelf.reads c.load_certificate.new.shelf in
    read-due d c.in-Ok.family (g.F.Shelf.files c.args.shelf.now) name mid after c.load_certificate.result c.args.machine.now.valid
    (subst (λ (files : Option Files). Comes (λ report. report) (CertDue d c.in-Ok.family files name) mid after c.load_certificate.result) c.family_of.ensures.reads.same_files
    c.load_certificate.ensures.comes)

pub returns-in-Ok-clause-accepts : goal.returns-in-Ok-clause-accepts
returns-in-Ok-clause-accepts g c =
    read-accepts c.args.machine.now.desc c.in-Ok.family (g.F.Shelf.files c.family_of.new.shelf) c.args.name.now _ _ c.load_certificate.result c.args.machine.now.valid
    c.load_certificate.ensures.comes

pub returns-in-Ok-clause-whole : goal.returns-in-Ok-clause-whole
returns-in-Ok-clause-whole g c =
    read-whole c.args.machine.now.desc c.in-Ok.family (g.F.Shelf.files c.family_of.new.shelf) c.args.name.now _ _ c.load_certificate.result c.args.machine.now.valid
    c.load_certificate.ensures.comes

pub returns-in-Ok-clause-fit : goal.returns-in-Ok-clause-fit
returns-in-Ok-clause-fit g c =
    read-fit c.args.machine.now.desc c.in-Ok.family (g.F.Shelf.files c.family_of.new.shelf) c.args.name.now _ _ c.load_certificate.result c.args.machine.now.valid
    c.load_certificate.ensures.comes
