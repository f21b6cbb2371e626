use Rattle.std.proofs.Common.{◌≡◌, ◌*◌, ◌^◌, drop, length}
use Rattle.pg_vec.specs.Direction.{move_of}
use Rattle.pg_vec.specs.Strings.{stages_made}
use Rattle.pg_vec.proofs.Loops.{Staged}
use Rattle.pg_vec.proofs.shift.stages.Given as goal

abbrev pub invariant-loop-choice : goal.invariant-loop-choice
invariant-loop-choice l =
    Staged l.fn.circuit.nodes (stages_made (move_of l.way) l.fn.circuit.nodes 1 l.x l.by) (length l.x * 3) l.choice-index (length l.x) l.bits.items l.circuit.nodes (stages_made (move_of l.way) l.circuit.nodes l.step l.bits.items (drop l.choice-index l.by))
    × (l.step ≡ 2 ^ l.choice-index)
