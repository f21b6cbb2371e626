use Rattle.std.proofs.Common.{drop, length}
use Rattle.pg_circuit.specs.Values.{IsThere}
use Rattle.pg_vec.specs.Strings.{sum_made}
use Rattle.pg_vec.proofs.Loops.{Built}
use Rattle.pg_vec.proofs.sum.sum.Given as goal

abbrev pub invariant-loop-i : goal.invariant-loop-i
invariant-loop-i l =
    Built l.fn.circuit.nodes (sum_made l.fn.circuit.nodes l.fn.carry_in l.x l.y) 5 l.i l.bits.items l.circuit.nodes
    (sum_made l.circuit.nodes l.carry (drop l.i l.x) (drop l.i l.y))
    × IsThere (length l.circuit.nodes) l.carry
