use Rattle.std.proofs.Common.{◌≡◌, ℕ, ◌-◌, ◌<◌, ◌≤◌, slice_get, Some}
use Rattle.std.specs.List.{All}
use Rattle.pg_word.specs.Sparse.{address_at}
use Rattle.pg_out_pair.specs.Telling.{IsDifference, IsSettled}
use Rattle.pg_out_pair.specs.Views.{seen_window}
use Rattle.pg_out_pair.proofs.differences.push_second.Given as goal

abbrev pub invariant-loop-cell : goal.invariant-loop-cell
invariant-loop-cell l = record {
  each : All (IsDifference (seen_window l.x) (seen_window l.y)) l.list.items;
  kept : (b : ℕ) → IsSettled (seen_window l.x) (seen_window l.y) l.initial.list.items b → IsSettled (seen_window l.x) (seen_window l.y) l.list.items b;
  settled : (k : ℕ) → k < l.cell-index → l.y.psw.l ≤ address_at l.cell-items k → slice_get (seen_window l.x) (address_at l.cell-items k - l.y.psw.l) ≡ Some 0 →
      IsSettled (seen_window l.x) (seen_window l.y) l.list.items (address_at l.cell-items k - l.y.psw.l);
}
