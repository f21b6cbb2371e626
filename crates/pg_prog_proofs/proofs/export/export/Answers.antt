use Rattle.pg_prog_proofs.proofs.ExportLemmas.{exported_so}
use Rattle.pg_prog_proofs.proofs.export.export.Goals as goal

pub returns-in-Ok-clause-exported : goal.returns-in-Ok-clause-exported
returns-in-Ok-clause-exported g c =
    exported_so c.args.request.now (g.F.Shelf.files c.args.shelf.now) (g.F.Shelf.files c.load.new.shelf) (g.F.Shelf.files c.tell.new.shelf)
    (g.S.Sink.written c.args.out.now) (g.S.Sink.written c.tell.new.out) c.in-Ok.texts c.tell.result c.in-Ok.ensures.is_export c.load.ensures.reads.same_files
    c.tell.ensures.saved c.tell.ensures.others c.tell.ensures.put
