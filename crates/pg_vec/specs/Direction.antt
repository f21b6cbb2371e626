-- The ways of a shift.
use Rattle.std.specs.Prelude.{ℕ, List}
use Rattle.pg_circuit.specs.declared.node.Gate.{Gate}
use Rattle.pg_vec.specs.declared.shift.Direction.{Direction}
use Rattle.pg_vec.specs.declared.shift.Direction.TheVariants.{Up, Down}
use Rattle.pg_vec.specs.Strings.{moved_up, moved_down}

abbrev pub move_of : Direction → ℕ → List Gate → List Gate
move_of Up = moved_up
move_of Down = moved_down
