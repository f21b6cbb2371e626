use Rattle.std.proofs.Common.{drop}
use Rattle.pg_vec.specs.Gates.{choice_made}
use Rattle.pg_vec.specs.Strings.{each_made}
use Rattle.pg_vec.proofs.Loops.{Built}
use Rattle.pg_cells.proofs.string.choose_string.Given as goal

abbrev pub invariant-loop-i : goal.invariant-loop-i
invariant-loop-i l =
    Built l.fn.circuit.nodes (each_made (choice_made l.choice) l.fn.circuit.nodes l.x l.y) 3 l.i l.bits.items l.circuit.nodes
    (each_made (choice_made l.choice) l.circuit.nodes (drop l.i l.x) (drop l.i l.y))
