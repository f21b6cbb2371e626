use Rattle.std.proofs.Common.{◌≡◌, ◌++◌, take}
use Rattle.std.specs.Prelude.{filter}
use Rattle.pg_replay.specs.Storing.{is_between}
use Rattle.pg_replay.proofs.stored.push_between.Given as goal

abbrev pub invariant-loop-cell : goal.invariant-loop-cell
invariant-loop-cell l = record {
  cells : l.state.cells ≡ l.initial.state.cells ++ filter (λ c. is_between l.from l.to c.0) (take l.cell-index l.cells);
  size : l.state.size ≡ l.initial.state.size;
  psw : l.state.psw ≡ l.initial.state.psw;
}
