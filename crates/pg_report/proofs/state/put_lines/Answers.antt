use Rattle.std.proofs.Common.{◌+◌, ◌*◌, arith}
use Rattle.std.proofs.lemmas.Result.{err_from_is_err_and}
use Rattle.pg_edge.proofs.PutsLaws.{Puts-none, Puts-then, Puts-stopped}
use Rattle.pg_image.specs.Lines.{line_cells, lines_before, line_count, line_words, cells_shown}
use Rattle.pg_report.specs.Spans.{span}
use Rattle.pg_report.proofs.Texts.{lines_before-none, lines_before-next, lines_before-front}
use Rattle.pg_report.proofs.state.put_lines.Goals as goal

pub loop-k-init : goal.loop-k-init
loop-k-init g c = rw (lines_before-none c.args.shape.now.w _) (Puts-none _ _ _)

pub loop-k-preserved : goal.loop-k-preserved
loop-k-preserved g c =
    let w = c.args.shape.now.w in
    let k = c.loop-k.k in
    let cells = span c.args.base c.args.size (g.H.Hardware.machinery c.args.hw.now).state.cells in
    rw (lines_before-next w k cells) (Puts-then _ _ _ _ _ _ (lines_before w k cells) (cells_shown w (line_cells * k) (line_words k cells)) _ _ c.loop-k.invariant c.in_ok-put_line.ensures)

pub returns-in_err-put_line : goal.returns-in_err-put_line
returns-in_err-put_line g c =
    let w = c.args.shape.now.w in
    let k = c.loop-k.k in
    let cells = span c.args.base c.args.size (g.H.Hardware.machinery c.args.hw.now).state.cells in
    let line = cells_shown w (line_cells * k) (line_words k cells) in
    let fault = err_from_is_err_and c.from_residual.result c.from_residual.ensures.1 in
    let rest = lines_before-front w (k + 1) (line_count c.args.size) cells (omega arith) in
    let front = Puts-then _ _ _ _ _ _ (lines_before w k cells) line _ _ c.loop-k.invariant c.in_err-put_line.ensures in
    rw fault.1 (rw rest.1 (rw (lines_before-next w k cells) (Puts-stopped _ _ _ _ _ rest.0 _ _ front)))
