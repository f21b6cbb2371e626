use Rattle.std.proofs.Common.{length, drop}
use Rattle.pg_vec.proofs.Loops.{Folded}
use Rattle.pg_cells.specs.Made.{row_made}
use Rattle.pg_cells.specs.Means.{each_pair}
use Rattle.pg_cells.proofs.agree.agree_with_all.Given as goal

abbrev pub invariant-loop-other : goal.invariant-loop-other
invariant-loop-other l =
    Folded l.fn.circuit.nodes (row_made l.fn.circuit.nodes l.fn.so_far l.cell l.others) (each_pair (length l.cell.word) (length l.cell.address)) l.other-index l.all l.circuit.nodes
    (row_made l.circuit.nodes l.all l.cell (drop l.other-index l.others))
