use Rattle.std.proofs.Common.{drop, false}
use Rattle.pg_circuit.specs.Made.{constant_gate}
use Rattle.pg_vec.specs.Strings.{any_made}
use Rattle.pg_vec.proofs.Loops.{Folded}
use Rattle.pg_vec.proofs.shift.any.Given as goal

abbrev pub invariant-loop-bit : goal.invariant-loop-bit
invariant-loop-bit l =
    Folded l.fn.circuit.nodes (any_made l.fn.circuit.nodes (constant_gate false) l.x) 1 l.bit-index l.so_far l.circuit.nodes (any_made l.circuit.nodes l.so_far (drop l.bit-index l.x))
