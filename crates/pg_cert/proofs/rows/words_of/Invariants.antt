use Rattle.std.proofs.Common.{◌≡◌, ◌≤◌, length, take, drop}
use Rattle.pg_word.specs.Sparse.{storage_of}
use Rattle.pg_cert.proofs.RowLemmas.{room, window}
use Rattle.pg_cert.proofs.rows.words_of.Given as goal

abbrev pub invariant-loop-left : goal.invariant-loop-left
invariant-loop-left l = record {
  in_range : l.left ≤ length l.cells;
  written : take (room l.size l.first) l.row ≡ window l.first (storage_of l.size (drop l.left l.cells));
}

abbrev pub decreases-loop-left : goal.decreases-loop-left
decreases-loop-left l = l.left
