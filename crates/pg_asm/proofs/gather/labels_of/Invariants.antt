use Rattle.std.proofs.Common.{◌≡◌, ◌+◌, ◌^◌, ◌≤◌, length}
use Rattle.std.specs.Option.{option_copied}
use Rattle.pg_image.specs.Images.{lines_of}
use Rattle.pg_image.specs.Left.{lines_left, bytes_left}
use Rattle.pg_asm.specs.Sources.{first_place, no_labels, said_from}
use Rattle.pg_asm.specs.Passes.{labels_due}
use Rattle.pg_asm.proofs.gather.labels_of.Given as goal

abbrev pub invariant-loop-left : goal.invariant-loop-left
invariant-loop-left l = record {
  so_far : labels_due l.n l.place l.labels (said_from l.w l.n (lines_left (option_copied l.left))) ≡ labels_due 1 first_place no_labels (said_from l.w 1 (lines_of l.bytes));
  room : l.n + bytes_left (option_copied l.left) ≤ length l.bytes + 2;
  first : 1 ≤ l.n;
  place : l.place + bytes_left (option_copied l.left) ≤ 10 ^ 7 + length l.bytes + 3;
}

abbrev pub decreases-loop-left : goal.decreases-loop-left
decreases-loop-left l = bytes_left (option_copied l.left)
