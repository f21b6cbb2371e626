use Rattle.std.proofs.Common.{◌≡◌, ◌++◌, drop}
use Rattle.pg_ask.specs.Means.{named_cells}
use Rattle.pg_ask.proofs.states.named.Given as goal

abbrev pub invariant-loop-cell : goal.invariant-loop-cell
invariant-loop-cell l = l.all.items ++ named_cells l.assignment (drop l.cell-index l.cells) ≡ named_cells l.assignment l.cells
