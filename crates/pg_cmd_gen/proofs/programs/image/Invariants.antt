use Rattle.std.proofs.Common.{◌≡◌, ◌*◌}
use Rattle.pg_cmd_gen.specs.Draws.{state_behind}
use Rattle.pg_cmd_gen.specs.Drawing.{cells_from}
use Rattle.pg_cmd_gen.proofs.programs.image.Given as goal

abbrev pub invariant-loop-cell : goal.invariant-loop-cell
invariant-loop-cell l = record {
  cells : l.cells ≡ cells_from l.fn.draws.state l.count l._cell;
  behind : l.draws.state ≡ state_behind l.fn.draws.state (4 * l._cell);
}
