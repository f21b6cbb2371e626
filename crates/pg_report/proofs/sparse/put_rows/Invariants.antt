use Rattle.std.proofs.Common.{◌≡◌, ◌-◌, ◌≤◌, List, ℕ, ◌++◌, length, drop, Ok}
use Rattle.pg_edge.specs.Sink.{Puts}
use Rattle.pg_edge.specs.declared.shelf.Failed.{Failed}
use Rattle.pg_cert.specs.Texts.{rows_of, lines_text}
use Rattle.pg_report.proofs.sparse.put_rows.Given as goal

-- what was put so far, and the rows of the cells that are left, make the whole
abbrev pub invariant-loop-at : goal.invariant-loop-at
invariant-loop-at g l = (sent : List ℕ) × (l.at ≤ length l.cells)
    × (sent ++ lines_text l.shape (rows_of l.size (drop l.at l.cells)) ≡ lines_text l.shape (rows_of l.size l.cells))
    × Puts {T = Unit {0}} {E = Failed} (g.S.Sink.written l.initial.out) (g.S.Sink.written l.out) (g.S.Sink.faults l.initial.out) (g.S.Sink.faults l.out) sent (Ok tt)

abbrev pub decreases-loop-at : goal.decreases-loop-at
decreases-loop-at g l = length l.cells - l.at
