use Rattle.std.proofs.Common.{◌-◌, ◌+◌, [], ◌++◌, length, drop, refl, ap, ◌∙◌, arith}
use Rattle.std.proofs.lemmas.List.{take_all, drop_all, length-drop}
use Rattle.std.proofs.lemmas.Result.{err_from_is_err_and}
use Rattle.pg_edge.proofs.PutsLaws.{Puts-none, Puts-then, Puts-stopped}
use Rattle.pg_image.specs.Lines.{cells_text}
use Rattle.pg_cert.specs.Texts.{rows_of, lines_text}
use Rattle.pg_cert.proofs.TextLemmas.{rows_over}
use Rattle.pg_report.proofs.Rows.{row_put}
use Rattle.pg_report.proofs.sparse.put_rows.Goals as goal

pub loop-at-init : goal.loop-at-init
loop-at-init g c = ([], omega arith, refl, Puts-none _ _ _)

pub loop-at-preserved : goal.loop-at-preserved
loop-at-preserved g c =
    let shape = c.args.shape.now in
    let cells = c.args.cells.now in
    let at = c.loop-at.at in
    let row = c.first_row-row.result in
    let sent = c.loop-at.invariant.0 in
    let line = cells_text shape.w row.first row.words.items in
    let rest = take_all (length cells - at) (drop at cells) (omega (arith, length-drop at cells)) in
    let put = rw (c.as_slice-in-loop-at.ensures.value ∙ c.cell_line.ensures.text ∙ ap (cells_text shape.w row.first) c.as_slice.ensures.value) at c.in_ok-put.ensures.puts in (
      sent ++ line,
      omega (arith, length-drop at cells, ap length rest),
      row_put shape c.args.size cells at row.count row.first row.words.items sent _ c.loop-at.invariant.2 (rw rest at c.first_row-row.ensures.rows),
      Puts-then _ _ _ _ _ _ sent line _ _ c.loop-at.invariant.3 put,
    )

pub returns-in_err-put : goal.returns-in_err-put
returns-in_err-put g c =
    let shape = c.args.shape.now in
    let cells = c.args.cells.now in
    let at = c.loop-at.at in
    let row = c.first_row-row.result in
    let sent = c.loop-at.invariant.0 in
    let line = cells_text shape.w row.first row.words.items in
    let rest = take_all (length cells - at) (drop at cells) (omega (arith, length-drop at cells)) in
    let put = rw (c.as_slice-in-loop-at.ensures.value ∙ c.cell_line.ensures.text ∙ ap (cells_text shape.w row.first) c.as_slice.ensures.value) at c.in_err-put.ensures.puts in
    let left = lines_text shape (rows_of c.args.size (drop (at + row.count) cells)) in
    let whole = row_put shape c.args.size cells at row.count row.first row.words.items sent _ c.loop-at.invariant.2 (rw rest at c.first_row-row.ensures.rows) in
    let fault = err_from_is_err_and c.from_residual.result c.from_residual.ensures.1 in
    let front = Puts-then _ _ _ _ _ _ sent line _ _ c.loop-at.invariant.3 put in
    rw fault.1 (rw (← whole) (Puts-stopped _ _ _ _ (sent ++ line) left _ _ front))

pub returns : goal.returns
returns g c =
    let cells = c.args.cells.now in
    let over = rows_over c.args.shape.now c.args.size (drop c.loop-at.at cells) c.loop-at.invariant.0 _ (drop_all c.loop-at.at cells (omega arith)) c.loop-at.invariant.2 in
    rw (← over) c.loop-at.invariant.3
