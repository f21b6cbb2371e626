use Rattle.std.proofs.Common.{◌≡◌, suc, ◌+◌, ◌*◌, ◌++◌, ap, sym, ◌∙◌, arith, append-nil, append_assoc}
use Rattle.std.proofs.Math.Nat.{mul-suc}
use Rattle.pg_image.specs.Lines.{line_cells, line_words, lines_before, cells_shown}
use Rattle.pg_report.specs.Spans.{span}
use Rattle.pg_report.proofs.Texts.{lines_before-none, lines_before-next}
use Rattle.pg_move.specs.Texts.{row_room}
use Rattle.pg_move.proofs.putting.put_rows.Goals as goal

pub loop-k-init : goal.loop-k-init
loop-k-init g c =
    let old = c.args.into.now.items in
    let cells = span c.args.base c.args.size (g.H.Hardware.machinery c.args.hw.now).state.cells in
    record {
      items = sym (ap (λ t. old ++ t) (lines_before-none c.args.shape.now.w cells) ∙ append-nil old);
      len = omega arith;
      capacity = omega arith;
    }

pub loop-k-preserved : goal.loop-k-preserved
loop-k-preserved g c =
    let old = c.args.into.now.items in
    let w = c.args.shape.now.w in
    let k = c.loop-k.k in
    let cells = span c.args.base c.args.size (g.H.Hardware.machinery c.args.hw.now).state.cells in
    let line = cells_shown w (line_cells * k) (line_words k cells) in
    let next : k + 1 ≡ suc k = omega arith in
    let room : row_room w * (k + 1) ≡ row_room w * k + row_room w = ap (λ n. row_room w * n) next ∙ mul-suc (row_room w) k in
    record {
      items = c.put_row.ensures.items ∙ ap (λ t. t ++ line) c.loop-k.invariant.items ∙ append_assoc old (lines_before w k cells) line
          ∙ ap (λ t. old ++ t) (sym (lines_before-next w k cells));
      len = omega (arith, c.put_row.ensures.len, c.loop-k.invariant.len, room);
      capacity = omega (arith, c.put_row.ensures.capacity, c.loop-k.invariant.capacity);
    }
