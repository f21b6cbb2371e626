use Rattle.std.proofs.Common.{◌≡◌, ◌+◌, length}
use Rattle.std.specs.Option.{option_copied}
use Rattle.pg_image.specs.Images.{lines_of}
use Rattle.pg_asm.specs.Sources.{foreign_place}
use Rattle.pg_image.specs.Left.{lines_left, bytes_left}
use Rattle.pg_asm.proofs.scan.foreign_place.Given as goal

abbrev pub invariant-loop-left : goal.invariant-loop-left
invariant-loop-left l = record {
  so_far : foreign_place l.place (lines_left (option_copied l.left)) ≡ foreign_place 0 (lines_of l.bytes);
  room : l.place + bytes_left (option_copied l.left) ≡ length l.bytes + 1;
}

abbrev pub decreases-loop-left : goal.decreases-loop-left
decreases-loop-left l = bytes_left (option_copied l.left)
