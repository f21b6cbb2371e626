use Rattle.std.proofs.Common.{◌≡◌, ◌*◌, drop, length}
use Rattle.pg_vec.specs.There.{AreThere}
use Rattle.pg_vec.specs.Strings.{mul_made, rows_made}
use Rattle.pg_vec.proofs.Loops.{Staged}
use Rattle.pg_vec.proofs.product.product.Given as goal

abbrev pub invariant-loop-bit : goal.invariant-loop-bit
invariant-loop-bit l =
    Staged l.fn.circuit.nodes (mul_made l.fn.circuit.nodes l.x l.y) (length l.x * 6) l.bit-index (length l.x) l.total.items l.circuit.nodes (rows_made l.circuit.nodes l.total.items l.moved.items (drop l.bit-index l.y))
    × AreThere (length l.circuit.nodes) l.moved.items × (length l.moved.items ≡ length l.x)
