use Rattle.std.proofs.Common.{◌++◌, ◌∙◌}
use Rattle.std.proofs.lemmas.Result.{err_from_is_err_and}
use Rattle.pg_edge.proofs.PutsLaws.{Puts-then, Puts-stopped}
use Rattle.pg_report.specs.Verdicts.{kind_line, sparse_text, shown_text}
use Rattle.pg_report.proofs.verdict.put_pair.Goals as goal

pub returns-in_err-put : goal.returns-in_err-put
unfolding shown_text
returns-in_err-put g c =
    let w = c.args.shape.now.w in
    let fault = err_from_is_err_and c.from_residual.result c.from_residual.ensures.1 in
    let line = rw (c.as_slice.ensures.value ∙ c.kind_line.ensures) at c.in_err-put.ensures.puts in
    rw fault.1 (Puts-stopped _ _ _ _ (kind_line c.args.kind) (sparse_text w c.args.first.now ++ sparse_text w c.args.second.now) _ _ line)

pub returns-in_err-put_sparse : goal.returns-in_err-put_sparse
unfolding shown_text
returns-in_err-put_sparse g c =
    let w = c.args.shape.now.w in
    let one = sparse_text w c.args.first.now in
    let two = sparse_text w c.args.second.now in
    let fault = err_from_is_err_and c.from_residual-in_err-put_sparse.result c.from_residual-in_err-put_sparse.ensures.1 in
    let line = rw (c.as_slice.ensures.value ∙ c.kind_line.ensures) at c.in_ok-put.ensures.puts in
    let stopped = Puts-stopped _ _ _ _ one two _ _ c.in_err-put_sparse.ensures in
    rw fault.1 (Puts-then _ _ _ _ _ _ (kind_line c.args.kind) (one ++ two) _ _ line stopped)

pub returns : goal.returns
unfolding shown_text
returns g c =
    let w = c.args.shape.now.w in
    let one = sparse_text w c.args.first.now in
    let two = sparse_text w c.args.second.now in
    let line = rw (c.as_slice.ensures.value ∙ c.kind_line.ensures) at c.in_ok-put.ensures.puts in
    let behind = Puts-then _ _ _ _ _ _ one two _ _ c.in_ok-put_sparse.ensures c.put_sparse-2.ensures in
    Puts-then _ _ _ _ _ _ (kind_line c.args.kind) (one ++ two) _ _ line behind
