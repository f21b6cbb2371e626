use Rattle.std.proofs.Common.{◌-◌, length, drop, ap, arith}
use Rattle.std.proofs.lemmas.List.{take_all, drop_all, length-drop}
use Rattle.pg_cert.proofs.TextLemmas.{rows_over, rows_more}
use Rattle.pg_cert.proofs.text.put_rows.Goals as goal

pub loop-at-preserved : goal.loop-at-preserved
loop-at-preserved c =
    let cells = c.args.cells.now in
    let at = c.loop-at.at in
    let row = c.first_row-row.result in
    let rest = take_all (length cells - at) (drop at cells) (omega (arith, length-drop at cells)) in
    record {
      in_range = omega (arith, length-drop at cells, ap length rest);
      so_far = rows_more c.args.shape.now c.args.size cells at row.count row.first row.words.items c.loop-at.into.items c.put_cells.new.into.items _ c.loop-at.invariant.so_far
          (rw rest at c.first_row-row.ensures.rows) (rw c.as_slice.ensures.value at c.in_ok-put_cells.ensures);
    }

pub returns : goal.returns
returns c = rows_over c.args.shape.now c.args.size (drop c.loop-at.at c.args.cells.now) c.loop-at.into.items _ (drop_all c.loop-at.at c.args.cells.now (omega arith)) c.loop-at.invariant.so_far
