use Rattle.std.proofs.Common.{◌≡◌, ◌+◌, ◌-◌, refl, arith}
use Rattle.pg_cert.proofs.RowLemmas.{row_begun, row_written}
use Rattle.pg_cert.proofs.rows.words_of.Goals as goal

pub loop-left-init : goal.loop-left-init
loop-left-init c = record {
  in_range = omega arith;
  written = row_begun c.args.size c.args.first _ c.args.cells.now _ refl (omega arith);
}

pub loop-left-preserved : goal.loop-left-preserved
loop-left-preserved c =
    let same : c.loop-left.left ≡ c.loop-left.left - 1 + 1 = omega arith in
    record {
      in_range = omega arith;
      written = row_written c.args.size c.args.first c.loop-left.row c.put_cell.new.row c.args.cells.now (c.loop-left.left - 1) _ (omega arith) refl c.requires.in_row c.put_cell.ensures
          (rw same at c.loop-left.invariant.written);
    }
