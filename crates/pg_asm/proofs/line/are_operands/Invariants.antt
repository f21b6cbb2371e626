use Rattle.std.proofs.Common.{◌≡◌, length}
use Rattle.std.specs.Prelude.{is_some}
use Rattle.pg_image.specs.Images.{parts_of}
use Rattle.pg_asm.specs.Said.{operands_said}
use Rattle.pg_asm.proofs.line.are_operands.Given as goal

abbrev pub invariant-loop-part : goal.invariant-loop-part
invariant-loop-part l = is_some (operands_said (parts_of l.left)) ≡ is_some (operands_said (parts_of l.text))

abbrev pub decreases-loop-part : goal.decreases-loop-part
decreases-loop-part l = length (parts_of l.left)
