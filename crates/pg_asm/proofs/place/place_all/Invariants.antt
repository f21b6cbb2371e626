use Rattle.std.proofs.Common.{◌≡◌, ◌+◌, ◌^◌, ◌≤◌, None, length}
use Rattle.std.specs.Option.{option_copied}
use Rattle.std.specs.Result.{result_err}
use Rattle.pg_image.specs.Images.{lines_of}
use Rattle.pg_image.specs.Left.{lines_left, bytes_left}
use Rattle.pg_asm.specs.Sources.{first_place, said_from}
use Rattle.pg_asm.specs.Passes.{words_due, AreFit}
use Rattle.pg_asm.proofs.place.place_all.Given as goal

abbrev pub invariant-loop-left : goal.invariant-loop-left
invariant-loop-left l = record {
  so_far : words_due l.machine.desc l.labels l.n l.place l.cells (said_from l.machine.desc.word l.n (lines_left (option_copied l.left)))
      ≡ words_due l.machine.desc l.labels 1 first_place l.initial.cells (said_from l.machine.desc.word 1 (lines_of l.bytes));
  formed : result_err (said_from l.machine.desc.word l.n (lines_left (option_copied l.left))) ≡ None;
  fit : AreFit l.machine.desc.word l.initial.cells → AreFit l.machine.desc.word l.cells;
  room : l.n + bytes_left (option_copied l.left) ≤ length l.bytes + 2;
  first : 1 ≤ l.n;
  place : l.place + bytes_left (option_copied l.left) ≤ 10 ^ 7 + length l.bytes + 3;
}

abbrev pub decreases-loop-left : goal.decreases-loop-left
decreases-loop-left l = bytes_left (option_copied l.left)
