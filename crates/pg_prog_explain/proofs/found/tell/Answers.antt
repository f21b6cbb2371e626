use Rattle.pg_prog_explain.proofs.found.tell.Goals as goal

pub returns-in-Err-clause-halts : goal.returns-in-Err-clause-halts
returns-in-Err-clause-halts g c =
    c.in-Err.ensures.halts (g.F.Shelf.files c.args.shelf.now) (g.F.Shelf.reads c.args.shelf.now) (g.F.Shelf.saves c.args.shelf.now) c.requires.due
