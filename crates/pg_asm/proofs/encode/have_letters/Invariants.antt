use Rattle.std.proofs.Common.{◌≡◌, ◌≤◌, length, drop}
use Rattle.pg_image.specs.Images.{parts_of}
use Rattle.pg_asm.specs.Lines.{operands_in, SaysOperands}
use Rattle.pg_asm.specs.Sources.{same_letters}
use Rattle.pg_asm.proofs.encode.have_letters.Given as goal

abbrev pub invariant-loop-part : goal.invariant-loop-part
invariant-loop-part l = record {
  says : SaysOperands l.left;
  within : l.k ≤ length l.fields;
  so_far : same_letters (drop l.k l.fields) (operands_in l.left) ≡ same_letters l.fields (operands_in l.operands);
}

abbrev pub decreases-loop-part : goal.decreases-loop-part
decreases-loop-part l = length (parts_of l.left)
