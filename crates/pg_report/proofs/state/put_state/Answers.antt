use Rattle.std.proofs.Common.{◌++◌, ◌∙◌}
use Rattle.std.proofs.lemmas.Result.{err_from_is_err_and}
use Rattle.pg_edge.proofs.PutsLaws.{Puts-then, Puts-stopped}
use Rattle.pg_image.specs.Lines.{size_text, psw_text, lines_before, line_count}
use Rattle.pg_report.specs.Spans.{span}
use Rattle.pg_report.proofs.Runs.{length-span}
use Rattle.pg_report.proofs.Texts.{state_text-parts}
use Rattle.pg_report.proofs.state.put_state.Goals as goal

pub returns-in_err-put : goal.returns-in_err-put
returns-in_err-put g c =
    let size = c.args.size in
    let psw = c.args.psw in
    let held = (g.H.Hardware.machinery c.args.hw.now).state.cells in
    let cells = span c.args.base size held in
    let parts = state_text-parts c.args.shape.now.w size cells psw (length-span c.args.base size held c.requires.within) in
    let rest = psw_text psw ++ lines_before c.args.shape.now.w (line_count size) cells in
    let fault = err_from_is_err_and c.from_residual.result c.from_residual.ensures.1 in
    let first = rw (c.as_slice.ensures.value ∙ c.size_line.ensures.text) at c.in_err-put.ensures.puts in
    rw fault.1 (rw parts (Puts-stopped _ _ _ _ (size_text size) rest _ _ first))

pub returns-in_err-put-2 : goal.returns-in_err-put-2
returns-in_err-put-2 g c =
    let size = c.args.size in
    let psw = c.args.psw in
    let held = (g.H.Hardware.machinery c.args.hw.now).state.cells in
    let cells = span c.args.base size held in
    let parts = state_text-parts c.args.shape.now.w size cells psw (length-span c.args.base size held c.requires.within) in
    let rest = lines_before c.args.shape.now.w (line_count size) cells in
    let fault = err_from_is_err_and c.from_residual-in_err-put-2.result c.from_residual-in_err-put-2.ensures.1 in
    let first = rw (c.as_slice.ensures.value ∙ c.size_line.ensures.text) at c.in_ok-put.ensures.puts in
    let second = rw (c.as_slice-2.ensures.value ∙ c.psw_line.ensures.text) at c.in_err-put-2.ensures.puts in
    let stopped = Puts-stopped _ _ _ _ (psw_text psw) rest _ _ second in
    rw fault.1 (rw parts (Puts-then _ _ _ _ _ _ (size_text size) (psw_text psw ++ rest) _ _ first stopped))

pub returns : goal.returns
returns g c =
    let size = c.args.size in
    let psw = c.args.psw in
    let held = (g.H.Hardware.machinery c.args.hw.now).state.cells in
    let cells = span c.args.base size held in
    let parts = state_text-parts c.args.shape.now.w size cells psw (length-span c.args.base size held c.requires.within) in
    let rest = lines_before c.args.shape.now.w (line_count size) cells in
    let first = rw (c.as_slice.ensures.value ∙ c.size_line.ensures.text) at c.in_ok-put.ensures.puts in
    let second = rw (c.as_slice-2.ensures.value ∙ c.psw_line.ensures.text) at c.in_ok-put-2.ensures.puts in
    let behind = Puts-then _ _ _ _ _ _ (psw_text psw) rest _ _ second c.put_lines.ensures in
    rw parts (Puts-then _ _ _ _ _ _ (size_text size) (psw_text psw ++ rest) _ _ first behind)
