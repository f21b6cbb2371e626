use Rattle.pg_cells.proofs.InputsMade.{InputsSoFar}
use Rattle.pg_cells.proofs.inputs.inputs.Given as goal

abbrev pub invariant-loop-i : goal.invariant-loop-i
invariant-loop-i l = InputsSoFar l.fn.circuit.nodes l.i l.bits.items l.circuit.nodes
