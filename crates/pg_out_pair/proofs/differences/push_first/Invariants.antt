use Rattle.std.proofs.Common.{ℕ, ◌-◌, ◌<◌, ◌≤◌}
use Rattle.std.specs.List.{All}
use Rattle.pg_word.specs.Sparse.{address_at}
use Rattle.pg_out_pair.specs.Telling.{IsDifference, IsSettled}
use Rattle.pg_out_pair.specs.Views.{seen_window}
use Rattle.pg_out_pair.proofs.differences.push_first.Given as goal

abbrev pub invariant-loop-cell : goal.invariant-loop-cell
invariant-loop-cell l = record {
  each : All (IsDifference (seen_window l.x) (seen_window l.y)) l.list.items;
  settled : (k : ℕ) → k < l.cell-index → l.x.psw.l ≤ address_at l.cell-items k →
      IsSettled (seen_window l.x) (seen_window l.y) l.list.items (address_at l.cell-items k - l.x.psw.l);
}
