use Rattle.std.proofs.Common.{◌≡◌, take, map}
use Rattle.pg_circuit.specs.Made.{not_gate}
use Rattle.pg_vec.proofs.sum.flip.Given as goal

abbrev pub invariant-loop-gate : goal.invariant-loop-gate
invariant-loop-gate l = l.bits.items ≡ map not_gate (take l.gate-index l.x)
