use Rattle.std.proofs.Common.{◌≡◌}
use Rattle.pg_type.proofs.PlacingLemmas.{Pushed}
use Rattle.pg_type.proofs.placing.in_order.Given as goal

abbrev pub invariant-loop-cell : goal.invariant-loop-cell
invariant-loop-cell l = record {
  pushed : Pushed l.psw.l l.usable l.cells l.cell-index l.least l.state.cells;
  size : l.state.size ≡ l.size;
  psw : l.state.psw ≡ l.psw;
}
