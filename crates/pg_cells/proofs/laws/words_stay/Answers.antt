use Rattle.pg_cells.proofs.LaterLaws.{words_later}
use Rattle.pg_cells.proofs.laws.words_stay.Goals as goal

pub returns : goal.returns
returns c = words_later c.args.nodes.now c.args.later.now c.args.w c.args.a c.args.cells.now c.args.more.now c.args.writes.now c.args.address.now c.args.word.now c.requires.word c.requires.front c.requires.cells
