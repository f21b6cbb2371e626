use Rattle.pg_cells.proofs.LaterLaws.{tells_later}
use Rattle.pg_cells.proofs.laws.agreement_stays.Goals as goal

pub returns : goal.returns
returns c = tells_later c.args.nodes.now c.args.later.now c.args.w c.args.a c.args.cells.now c.args.gate c.requires.tells c.requires.front
