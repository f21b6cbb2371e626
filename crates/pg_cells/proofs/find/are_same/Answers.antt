use Rattle.std.proofs.Common.{arith}
use Rattle.pg_cells.proofs.FindLaws.{other_length}
use Rattle.pg_cells.proofs.find.are_same.Goals as goal

pub returns-then-x-y : goal.returns-then-x-y
returns-then-x-y c = other_length c.args.x.now c.args.y.now (λ e. omega arith)
