use Rattle.std.proofs.Common.{drop}
use Rattle.pg_vec.specs.Strings.{carry_out_made}
use Rattle.pg_vec.proofs.Loops.{Folded}
use Rattle.pg_vec.proofs.compare.last_carry.Given as goal

abbrev pub invariant-loop-i : goal.invariant-loop-i
invariant-loop-i l =
    Folded l.fn.circuit.nodes (carry_out_made l.fn.circuit.nodes l.fn.carry_in l.x l.y) 4 l.i l.carry l.circuit.nodes (carry_out_made l.circuit.nodes l.carry (drop l.i l.x) (drop l.i l.y))
