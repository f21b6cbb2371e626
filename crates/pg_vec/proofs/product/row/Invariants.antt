use Rattle.std.proofs.Common.{drop}
use Rattle.pg_vec.specs.Strings.{row_made}
use Rattle.pg_vec.proofs.Loops.{Built}
use Rattle.pg_vec.proofs.product.row.Given as goal

abbrev pub invariant-loop-bit : goal.invariant-loop-bit
invariant-loop-bit l =
    Built l.fn.circuit.nodes (row_made l.fn.circuit.nodes l.y l.x) 1 l.bit-index l.bits.items l.circuit.nodes (row_made l.circuit.nodes l.y (drop l.bit-index l.x))
