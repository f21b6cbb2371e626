use Rattle.std.proofs.Common.{◌*◌, length, drop}
use Rattle.pg_vec.proofs.Loops.{Folded}
use Rattle.pg_cells.specs.Made.{pairs_made, consistent_made}
use Rattle.pg_cells.specs.Means.{each_pair}
use Rattle.pg_cells.proofs.touched.Touched.consistent.Given as goal

abbrev pub invariant-loop-i : goal.invariant-loop-i
invariant-loop-i l =
    Folded l.fn.circuit.nodes (consistent_made l.fn.circuit.nodes l.cells) (length l.self.cells * each_pair l.self.w l.self.a) l.i l.so_far l.circuit.nodes (pairs_made l.circuit.nodes l.so_far (drop l.i l.cells))
