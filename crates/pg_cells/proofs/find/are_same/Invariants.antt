use Rattle.std.proofs.Common.{◌≡◌, drop}
use Rattle.pg_cells.specs.Made.{same_gates}
use Rattle.pg_cells.proofs.find.are_same.Given as goal

abbrev pub invariant-loop-i : goal.invariant-loop-i
invariant-loop-i l = same_gates (drop l.i l.x) (drop l.i l.y) ≡ same_gates l.x l.y
