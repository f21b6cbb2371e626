use Rattle.std.proofs.Common.{length, drop}
use Rattle.pg_vec.proofs.Loops.{Staged}
use Rattle.pg_cells.specs.Made.{laid_made}
use Rattle.pg_cells.specs.Means.{each_write}
use Rattle.pg_cells.proofs.lay.lay.Given as goal

abbrev pub invariant-loop-write : goal.invariant-loop-write
invariant-loop-write l =
    Staged l.fn.circuit.nodes (laid_made l.fn.circuit.nodes l.address l.writes l.word) (each_write (length l.word) (length l.address)) l.write-index (length l.word) l.so_far.items l.circuit.nodes
    (laid_made l.circuit.nodes l.address (drop l.write-index l.writes) l.so_far.items)
