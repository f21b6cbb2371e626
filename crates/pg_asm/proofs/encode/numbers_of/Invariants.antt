use Rattle.std.proofs.Common.{◌≡◌, ◌+◌, ◌≤◌, ◌++◌, length}
use Rattle.std.specs.Option.{option_map}
use Rattle.pg_image.specs.Images.{parts_of}
use Rattle.pg_asm.specs.Lines.{operands_in, SaysOperands}
use Rattle.pg_asm.specs.Sources.{numbers_of}
use Rattle.pg_asm.proofs.encode.numbers_of.Given as goal

abbrev pub invariant-loop-part : goal.invariant-loop-part
invariant-loop-part l = record {
  says : SaysOperands l.left;
  room : length l.numbers.items + length (parts_of l.left) ≤ 64;
  so_far : option_map (λ vs. l.numbers.items ++ vs) (numbers_of l.labels (operands_in l.left)) ≡ numbers_of l.labels (operands_in l.operands);
}

abbrev pub decreases-loop-part : goal.decreases-loop-part
decreases-loop-part l = length (parts_of l.left)
