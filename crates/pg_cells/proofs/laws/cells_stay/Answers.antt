use Rattle.pg_cells.proofs.OverLaws.{IsOver-later}
use Rattle.pg_cells.proofs.laws.cells_stay.Goals as goal

pub returns : goal.returns
returns c = IsOver-later _ _ c.args.touched.now c.requires.front c.requires.over
