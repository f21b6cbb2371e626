use Rattle.std.proofs.Common.{Ok, Err, sym, ap, subst}
use Rattle.pg_cert.specs.declared.cert.Family.TheVariants.{Plain}
use Rattle.pg_cert_migrate.specs.Migrated.{IsMigrated}
use Rattle.pg_cert_migrate.specs.declared.migrating.Migrated.{Migrated}
use Rattle.pg_report.specs.declared.line.CertificateLine.TheVariants as told_line
use Rattle.pg_report.specs.declared.line.RefusalLine.TheVariants.{Certificate}
use Rattle.pg_verify.specs.Feeding.{most_bytes, verified_whole, IsAnswer}
use Rattle.pg_cmd_base.specs.Answering.{Comes}
use Rattle.pg_cmd_certs.specs.Certificates.{CertTextDue, CertDue}
use Rattle.pg_cmd_base.proofs.FileLemmas.{file-stops}
use Rattle.pg_cmd_check.proofs.MigrateLemmas.{held_came, held_stops}
use Rattle.pg_cmd_check.proofs.migrate.load_migrated.Goals as goal

pub returns-in-Err-clause-comes : goal.returns-in-Err-clause-comes
unfolding CertDue
returns-in-Err-clause-comes g c =
    let told = g.F.Shelf.files c.args.shelf.now in
    let d = c.args.machine.now.desc in
    let before = g.F.Shelf.reads c.args.shelf.now in
    let after = g.F.Shelf.reads c.load_file.new.shelf in
    subst (λ s. Comes (λ (m : Migrated). m.report) (CertDue d Plain told c.args.name.now) before after (Err s)) (sym c.stop_of.ensures)
    (file-stops (λ (m : Migrated). m.report) Certificate told c.args.name.now most_bytes told_line.Long (CertTextDue d Plain) before after c.in-Err.fault
    (λ e. c.in-Err.ensures.missing (ap Err e)) (λ e. c.in-Err.ensures.long (ap Err e)) (λ e. c.in-Err.ensures.failed (ap Err e)))

pub returns-in-Ok-migrate_watched-clause-comes : goal.returns-in-Ok-migrate_watched-clause-comes
returns-in-Ok-migrate_watched-clause-comes g c =
    let d = c.args.machine.now.desc in
    held_came d (g.F.Shelf.files c.args.shelf.now) c.args.name.now c.in-Ok.bytes.items c.in-Ok-migrate_watched.migrated.report c.in-Ok.ensures.ok
    (subst (λ bs. IsAnswer (verified_whole d Plain bs) (Ok c.in-Ok-migrate_watched.migrated.report)) c.deref.ensures.value c.in-Ok-migrate_watched.ensures.answer)

pub returns-in-Ok-migrate_watched-clause-from_file : goal.returns-in-Ok-migrate_watched-clause-from_file
returns-in-Ok-migrate_watched-clause-from_file g c =
    let d = c.args.machine.now.desc in
    let m = c.in-Ok-migrate_watched.migrated in
    record {
      was = c.in-Ok.bytes.items;
      held = c.in-Ok.ensures.ok;
      migrated = subst (λ bs. IsMigrated d Plain bs m.cert) c.deref.ensures.value c.in-Ok-migrate_watched.ensures.migrated;
    }

pub returns-clause-comes : goal.returns-clause-comes
returns-clause-comes g c =
    let d = c.args.machine.now.desc in
    held_stops (λ (m : Migrated). m.report) d (g.F.Shelf.files c.args.shelf.now) c.args.name.now c.in-Ok.bytes.items c.in-Err-migrate_watched.fault c.stop_of_text.result
    (g.F.Shelf.reads c.args.shelf.now) (g.F.Shelf.reads c.load_file.new.shelf) c.in-Ok.ensures.ok
    (subst (λ bs. IsAnswer (verified_whole d Plain bs) (Err c.in-Err-migrate_watched.fault)) c.deref.ensures.value c.in-Err-migrate_watched.ensures.answer)
    c.stop_of_text.ensures
