use Rattle.pg_cmd_base.specs.World.{output}
use Rattle.pg_prog_proofs.proofs.ImportLemmas.{imported_so}
use Rattle.pg_prog_proofs.proofs.import.import.Goals as goal

pub returns-in-Ok-clause-imported : goal.returns-in-Ok-clause-imported
returns-in-Ok-clause-imported g c =
    imported_so c.args.request.now (g.F.Shelf.files c.args.shelf.now) (g.F.Shelf.files c.prepare.new.shelf) (g.F.Shelf.files c.save_new.new.shelf)
    (g.F.Shelf.saves c.args.shelf.now) (g.F.Shelf.saves c.prepare.new.shelf) (g.F.Shelf.saves c.save_new.new.shelf)
    (output g.S.Sink c.args.out.now) (output g.S.Sink c.save_new.new.out) c.in-Ok.new c.in-Ok.ensures.is_import c.prepare.ensures.reads.same_files
    c.prepare.ensures.reads.same_saves c.save_new.result c.save_new.ensures.saved c.save_new.ensures.once c.save_new.ensures.told
