use Rattle.pg_image.proofs.Putting.{row_clash, row_put}
use Rattle.pg_image.proofs.placing.place_row.Goals as goal

pub returns-in-Some-clause-placed : goal.returns-in-Some-clause-placed
returns-in-Some-clause-placed c =
    row_clash c.args.cells.now c.args.given.now c.args.n c.args.row.now c.in-Some.fault c.requires.count c.in-Some.ensures

pub returns-in-None-clause-placed : goal.returns-in-None-clause-placed
returns-in-None-clause-placed c =
    row_put c.args.cells.now c.put_words.new.cells c.args.given.now c.mark.new.given c.args.n c.args.row.now c.requires.count c.in-None.ensures c.put_words.ensures.put c.mark.ensures
