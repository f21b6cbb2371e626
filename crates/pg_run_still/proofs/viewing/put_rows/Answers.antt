use Rattle.std.proofs.Common.{◌+◌, ◌*◌, ◌<◌, ◌^◌, ◌∙◌, arith}
use Rattle.std.proofs.lemmas.Result.{err_from_is_err_and}
use Rattle.pg_edge.proofs.PutsLaws.{Puts-none, Puts-then, Puts-stopped}
use Rattle.pg_image.specs.Lines.{cells_text, line_cells, line_count, line_words}
use Rattle.pg_report.specs.Spans.{span}
use Rattle.pg_report.proofs.Runs.{All-read}
use Rattle.pg_run_still.specs.Views.{rows_from}
use Rattle.pg_run_still.proofs.ViewLemmas.{rows_from-none, rows_from-next, rows_from-front}
use Rattle.pg_run_still.proofs.viewing.put_rows.Goals as goal

pub loop-k-init : goal.loop-k-init
loop-k-init g c = rw (rows_from-none c.args.shape.now.w c.args.part.first _) (Puts-none _ _ _)

pub cell_line-requires-clause-fit : goal.cell_line-requires-clause-fit
cell_line-requires-clause-fit g c =
    All-read (λ word. word < 2 ^ c.args.shape.now.w) line_cells (line_cells * c.loop-k.k) _ _ (c.as_slice.ensures.value ∙ c.row_of-row.ensures.items) c.requires.fit

pub loop-k-preserved : goal.loop-k-preserved
loop-k-preserved g c =
    let w = c.args.shape.now.w in
    let k = c.loop-k.k in
    let cells = span c.args.part.base c.args.part.size (g.H.Hardware.machinery c.args.hw.now).state.cells in
    let line = rw (c.as_slice-in-loop-k.ensures.value ∙ c.cell_line.ensures.text) at c.in_ok-put.ensures.puts in
    let row = rw (c.as_slice.ensures.value ∙ c.row_of-row.ensures.items) at line in
    rw (rows_from-next w c.args.part.first k cells)
    (Puts-then _ _ _ _ _ _ (rows_from w c.args.part.first k cells) (cells_text w (c.args.part.first + line_cells * k) (line_words k cells)) _ _ c.loop-k.invariant row)

pub returns-in_err-put : goal.returns-in_err-put
returns-in_err-put g c =
    let w = c.args.shape.now.w in
    let k = c.loop-k.k in
    let cells = span c.args.part.base c.args.part.size (g.H.Hardware.machinery c.args.hw.now).state.cells in
    let fault = err_from_is_err_and c.from_residual.result c.from_residual.ensures.1 in
    let rest = rows_from-front w c.args.part.first (k + 1) (line_count c.args.part.size) cells (omega arith) in
    let line = rw (c.as_slice-in-loop-k.ensures.value ∙ c.cell_line.ensures.text) at c.in_err-put.ensures.puts in
    let row = rw (c.as_slice.ensures.value ∙ c.row_of-row.ensures.items) at line in
    let front = Puts-then _ _ _ _ _ _ (rows_from w c.args.part.first k cells) (cells_text w (c.args.part.first + line_cells * k) (line_words k cells)) _ _ c.loop-k.invariant row in
    rw fault.1 (rw rest.1 (rw (rows_from-next w c.args.part.first k cells) (Puts-stopped _ _ _ _ _ rest.0 _ _ front)))
