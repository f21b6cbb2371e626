use Rattle.std.proofs.Common.{◌++◌, ◌∙◌}
use Rattle.std.proofs.lemmas.Result.{err_from_is_err_and}
use Rattle.pg_edge.proofs.PutsLaws.{Puts-then, Puts-stopped}
use Rattle.pg_image.specs.Lines.{size_text, psw_text}
use Rattle.pg_cert.specs.Texts.{rows_of, lines_text}
use Rattle.pg_report.proofs.Rows.{sparse_parts}
use Rattle.pg_report.proofs.sparse.put_sparse.Goals as goal

pub returns-in_err-put : goal.returns-in_err-put
returns-in_err-put g c =
    let s = c.args.s.now in
    let rows = lines_text c.args.shape.now (rows_of s.size s.cells) in
    let fault = err_from_is_err_and c.from_residual.result c.from_residual.ensures.1 in
    let first = rw (c.as_slice.ensures.value ∙ c.size_line.ensures.text) at c.in_err-put.ensures.puts in
    rw fault.1 (rw (sparse_parts c.args.shape.now s) (Puts-stopped _ _ _ _ (size_text s.size) (psw_text s.psw ++ rows) _ _ first))

pub returns-in_err-put-2 : goal.returns-in_err-put-2
returns-in_err-put-2 g c =
    let s = c.args.s.now in
    let rows = lines_text c.args.shape.now (rows_of s.size s.cells) in
    let fault = err_from_is_err_and c.from_residual-in_err-put-2.result c.from_residual-in_err-put-2.ensures.1 in
    let first = rw (c.as_slice.ensures.value ∙ c.size_line.ensures.text) at c.in_ok-put.ensures.puts in
    let second = rw (c.as_slice-2.ensures.value ∙ c.psw_line.ensures.text) at c.in_err-put-2.ensures.puts in
    let stopped = Puts-stopped _ _ _ _ (psw_text s.psw) rows _ _ second in
    rw fault.1 (rw (sparse_parts c.args.shape.now s) (Puts-then _ _ _ _ _ _ (size_text s.size) (psw_text s.psw ++ rows) _ _ first stopped))

pub returns : goal.returns
returns g c =
    let s = c.args.s.now in
    let rows = lines_text c.args.shape.now (rows_of s.size s.cells) in
    let first = rw (c.as_slice.ensures.value ∙ c.size_line.ensures.text) at c.in_ok-put.ensures.puts in
    let second = rw (c.as_slice-2.ensures.value ∙ c.psw_line.ensures.text) at c.in_ok-put-2.ensures.puts in
    let third = rw c.as_slice-3.ensures.cells at c.put_rows.ensures in
    let behind = Puts-then _ _ _ _ _ _ (psw_text s.psw) rows _ _ second third in
    rw (sparse_parts c.args.shape.now s) (Puts-then _ _ _ _ _ _ (size_text s.size) (psw_text s.psw ++ rows) _ _ first behind)
