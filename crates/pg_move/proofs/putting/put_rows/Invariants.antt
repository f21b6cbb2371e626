use Rattle.std.proofs.Common.{◌≡◌, ◌+◌, ◌*◌, ◌≤◌, ◌++◌, vec_len, vec_capacity}
use Rattle.pg_image.specs.Lines.{lines_before}
use Rattle.pg_report.specs.Spans.{span}
use Rattle.pg_move.specs.Texts.{row_room}
use Rattle.pg_move.proofs.putting.put_rows.Given as goal

abbrev pub invariant-loop-k : goal.invariant-loop-k
invariant-loop-k g l = record {
  items : l.into.items ≡ l.initial.into.items ++ lines_before l.shape.w l.k (span l.base l.size (g.H.Hardware.machinery l.hw).state.cells);
  len : vec_len l.into ≤ vec_len l.initial.into + row_room l.shape.w * l.k;
  capacity : vec_capacity l.initial.into ≤ vec_capacity l.into;
}
