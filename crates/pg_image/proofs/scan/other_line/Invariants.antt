use Rattle.std.proofs.Common.{◌≡◌, ◌+◌, ◌≤◌, length}
use Rattle.std.specs.Option.{option_copied}
use Rattle.std.specs.Result.{result_err}
use Rattle.pg_image.specs.Images.{lines_of, rows_from}
use Rattle.pg_image.specs.Left.{lines_left, bytes_left}
use Rattle.pg_image.proofs.scan.other_line.Given as goal

abbrev pub invariant-loop-left : goal.invariant-loop-left
invariant-loop-left l = record {
  so_far : result_err (rows_from l.w l.n (lines_left (option_copied l.left))) ≡ result_err (rows_from l.w 1 (lines_of l.bytes));
  room : l.n + bytes_left (option_copied l.left) ≤ length l.bytes + 2;
}

abbrev pub decreases-loop-left : goal.decreases-loop-left
decreases-loop-left l = bytes_left (option_copied l.left)
