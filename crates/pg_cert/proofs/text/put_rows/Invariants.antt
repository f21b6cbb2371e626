use Rattle.std.proofs.Common.{◌≡◌, ◌-◌, ◌≤◌, ◌++◌, length, drop}
use Rattle.pg_cert.specs.Texts.{rows_of, lines_text}
use Rattle.pg_cert.proofs.text.put_rows.Given as goal

abbrev pub invariant-loop-at : goal.invariant-loop-at
invariant-loop-at l = record {
  in_range : l.at ≤ length l.cells;
  so_far : l.into.items ++ lines_text l.shape (rows_of l.size (drop l.at l.cells)) ≡ l.initial.into.items ++ lines_text l.shape (rows_of l.size l.cells);
}

abbrev pub decreases-loop-at : goal.decreases-loop-at
decreases-loop-at l = length l.cells - l.at
