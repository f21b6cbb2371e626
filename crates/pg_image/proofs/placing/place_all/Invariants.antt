use Rattle.std.proofs.Common.{◌≡◌, ◌+◌, ◌^◌, ◌<◌, ◌≤◌, None, length, All}
use Rattle.std.specs.Option.{option_copied}
use Rattle.std.specs.Result.{result_err}
use Rattle.pg_image.specs.Images.{lines_of, rows_from, then_due}
use Rattle.pg_image.specs.Left.{lines_left, bytes_left}
use Rattle.pg_image.specs.Placing.{place_rows}
use Rattle.pg_image.proofs.placing.place_all.Given as goal

abbrev pub invariant-loop-left : goal.invariant-loop-left
invariant-loop-left l = record {
  formed : result_err (rows_from l.w l.n (lines_left (option_copied l.left))) ≡ None;
  fit : All (λ cell. cell < 2 ^ l.w) l.cells;
  so_far : then_due (rows_from l.w l.n (lines_left (option_copied l.left))) (place_rows l.cells l.given) ≡ then_due (rows_from l.w 1 (lines_of l.bytes)) (place_rows l.initial.cells l.initial.given);
  room : l.n + bytes_left (option_copied l.left) ≤ length l.bytes + 2;
}

abbrev pub decreases-loop-left : goal.decreases-loop-left
decreases-loop-left l = bytes_left (option_copied l.left)
