use Rattle.std.proofs.Common.{sym, subst}
use Rattle.pg_cert_migrate.specs.Migrated.{IsMigrated}
use Rattle.pg_prog_base.proofs.certificate.load_certificate.Goals as goal

pub returns-in-Ok-migrate_of-clause-of_file : goal.returns-in-Ok-migrate_of-clause-of_file
returns-in-Ok-migrate_of-clause-of_file g c =
    let d = c.args.machine.now.desc in
    let m = c.in-Ok-migrate_of.migrated in
    let h = c.in-Ok-migrate_of.ensures.migrated in
    record {
      made = record {
        bytes = c.in-Ok.bytes.items;
        migrated = subst (λ f. IsMigrated d f c.in-Ok.bytes.items m.cert) (sym h.new_family)
            (subst (λ bs. IsMigrated d c.family_of.result bs m.cert) c.deref-2.ensures.value h);
      };
      held = c.in-Ok.ensures.ok;
    }
