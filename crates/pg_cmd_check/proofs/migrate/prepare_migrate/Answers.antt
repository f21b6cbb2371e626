use Rattle.std.proofs.Common.{Err, subst}
use Rattle.pg_mach_ready.specs.declared.machine.Machine.{Machine}
use Rattle.pg_ask.specs.Question.{question}
use Rattle.pg_cert.specs.declared.cert.Family.TheVariants.{Plain}
use Rattle.pg_cert.specs.Texts.{heading_of}
use Rattle.pg_cert.proofs.Fits.{cert_fits}
use Rattle.pg_cert_migrate.specs.declared.migrating.Migrated.{Migrated}
use Rattle.pg_cmd_base.specs.Answering.{Comes}
use Rattle.pg_cmd_certs.specs.Certificates.{CertDue}
use Rattle.pg_cmd_check.specs.Migrate.{MigratesFile}
use Rattle.pg_cmd_certs.specs.WrittenViews.{written}
use Rattle.pg_cmd_base.specs.Steps.{Came}
use Rattle.pg_cmd_certs.proofs.JudgedLemmas.{judged-stopped, judged-refused, judged-came}
use Rattle.pg_cmd_check.proofs.MigrateLemmas.{is_migrated_text}
use Rattle.pg_cmd_certs.proofs.SavingLemmas.{written_fit, written_whole}
use Rattle.pg_cmd_check.proofs.migrate.prepare_migrate.Goals as goal

pub write-requires-clause-fit : goal.write-requires-clause-fit
write-requires-clause-fit g c =
    let d = c.in-Ok.machine.desc in
    let h = c.in-Ok-load_migrated.ensures.from_file.migrated.now in
    cert_fits (question d) (heading_of Plain) d c.in-Ok-load_migrated.made.cert h.listed h.valid

pub returns-in-Err-clause-comes : goal.returns-in-Err-clause-comes
returns-in-Err-clause-comes g c =
    judged-stopped (λ (m : Machine). m.desc) written Plain (g.F.Shelf.files c.args.shelf.now) c.args.words.now.desc c.args.words.now.cert _ _ c.in-Err.stop
    c.in-Err.ensures.comes c.load_machine.ensures.reads.later

pub returns-in-Err-load_migrated-clause-comes : goal.returns-in-Err-load_migrated-clause-comes
returns-in-Err-load_migrated-clause-comes g c =
    let m = c.args.words.now in
    let d = c.in-Ok.machine.desc in
    judged-refused (λ (x : Migrated). x.report) written Plain (g.F.Shelf.files c.args.shelf.now) m.desc m.cert d _ _ _ c.in-Err-load_migrated.stop
    c.in-Ok.ensures.comes c.load_machine.ensures.reads.later
    (subst (λ files. Comes (λ (x : Migrated). x.report) (CertDue d Plain files m.cert) (g.F.Shelf.reads c.load_machine.new.shelf) (g.F.Shelf.reads c.load_migrated.new.shelf)
    (Err c.in-Err-load_migrated.stop)) c.load_machine.ensures.reads.same_files c.in-Err-load_migrated.ensures.comes)

pub returns-in-Ok-write-clause-comes : goal.returns-in-Ok-write-clause-comes
returns-in-Ok-write-clause-comes g c =
    let m = c.args.words.now in
    let d = c.in-Ok.machine.desc in
    judged-came Plain (g.F.Shelf.files c.args.shelf.now) m.desc m.cert d c.in-Ok-load_migrated.made.report c.in-Ok.ensures.comes
    (subst (λ files. CertDue d Plain files m.cert (Came c.in-Ok-load_migrated.made.report)) c.load_machine.ensures.reads.same_files c.in-Ok-load_migrated.ensures.comes)

pub returns-in-Ok-write-clause-migrated : goal.returns-in-Ok-write-clause-migrated
returns-in-Ok-write-clause-migrated g c =
    let m = c.args.words.now in
    let d = c.in-Ok.machine.desc in
    let made = c.in-Ok-load_migrated.made in
    is_migrated_text d (g.F.Shelf.files c.args.shelf.now) m.cert c.in-Ok-write.text.items made.cert made.report
    (subst (λ files. MigratesFile files m.cert d made.cert) c.load_machine.ensures.reads.same_files c.in-Ok-load_migrated.ensures.from_file)
    c.in-Ok-write.ensures c.in-Ok-load_migrated.ensures.family c.in-Ok-load_migrated.ensures.marks

pub invariant_of-result : goal.invariant_of-result
invariant_of-result g c =
    let m = c.args.words.now in
    let machine = c.in-Ok.machine in
    let d = machine.desc in
    let made = c.in-Ok-load_migrated.made in
    let bytes = c.in-Ok-write.text.items in
    let h = is_migrated_text d (g.F.Shelf.files c.args.shelf.now) m.cert bytes made.cert made.report
    (subst (λ files. MigratesFile files m.cert d made.cert) c.load_machine.ensures.reads.same_files c.in-Ok-load_migrated.ensures.from_file)
    c.in-Ok-write.ensures c.in-Ok-load_migrated.ensures.family c.in-Ok-load_migrated.ensures.marks in
    record {
      whole = written_whole d Plain bytes made.report machine.valid h.written;
      fit = written_fit d Plain bytes made.report machine.valid h.written;
    }
