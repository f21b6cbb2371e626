use Rattle.std.proofs.Common.{refl}
use Rattle.pg_cmd_base.specs.World.{around}
use Rattle.pg_cmd_check.specs.Migrate.{migrate_command}
use Rattle.pg_cmd_certs.specs.WrittenViews.{written}
use Rattle.pg_cmd_check.proofs.MigrateLemmas.{migrate_ends, migrate_unsaved}
use Rattle.pg_cmd_certs.proofs.SavingLemmas.{carries-saved}
use Rattle.pg_cmd_base.proofs.CarryLemmas.{carries-stopped}
use Rattle.pg_cmd_check.proofs.migrate.carry_migrate.Goals as goal

pub returns-in-Ok-clause-carries : goal.returns-in-Ok-clause-carries
returns-in-Ok-clause-carries g c =
    let w = c.args.words.now in
    let made = c.in-Ok.made in
    let j = written made in
    let bytes = made.text.items in
    let valid = made.judged.machine.valid in
    let migrated = c.in-Ok.ensures.migrated in
    let old = around g.F.Shelf g.S.Sink g.H.Hardware c.args.shelf.now c.args.out.now c.args.hw.now in
    let mid = around g.F.Shelf g.S.Sink g.H.Hardware c.prepare_migrate.new.shelf c.args.out.now c.args.hw.now in
    let new = around g.F.Shelf g.S.Sink g.H.Hardware c.save_and_tell.new.shelf c.save_and_tell.new.out c.args.hw.now in
    carries-saved (migrate_command w) w.file bytes j old mid new j c.save_and_tell.result c.in-Ok.ensures.comes refl
    (migrate_ends w j old new bytes valid migrated refl) (migrate_unsaved w j old new bytes valid migrated refl)
    c.prepare_migrate.ensures.reads.same_files c.prepare_migrate.ensures.reads.same_saves refl refl c.save_and_tell.ensures.saved

pub returns-in-Err-clause-carries : goal.returns-in-Err-clause-carries
returns-in-Err-clause-carries g c =
    let w = c.args.words.now in
    let old = around g.F.Shelf g.S.Sink g.H.Hardware c.args.shelf.now c.args.out.now c.args.hw.now in
    let new = around g.F.Shelf g.S.Sink g.H.Hardware c.prepare_migrate.new.shelf c.stopped.new.out c.args.hw.now in
    carries-stopped (migrate_command w) written old new c.in-Err.stop c.stopped.result c.in-Err.ensures.comes c.stopped.ensures.stops
    (record { files = c.prepare_migrate.ensures.reads.same_files; saves = c.prepare_migrate.ensures.reads.same_saves; hw = refl })
