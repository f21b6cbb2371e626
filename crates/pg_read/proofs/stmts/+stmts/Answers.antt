use Rattle.std.proofs.lemmas.Result.{err_from_is_err_and}
use Rattle.pg_ast.specs.Levels.{most_expr_levels}
use Rattle.pg_ast.specs.Reading.{read_expr, read_stmt}
use Rattle.pg_read.specs.Blocks.{body_at}
use Rattle.pg_read.proofs.StepLemmas.{due-stop}
use Rattle.pg_read.proofs.BodyExact.{stmt-shorter}
use Rattle.pg_read.proofs.BlockLemmas.{StmtsSoFar-next, StmtsSoFar-all, StmtsSoFar-stop}
use Rattle.pg_read.proofs.stmts.+stmts.Goals as goal

pub stmts-returns-in_err-stmt : goal.stmts-returns-in_err-stmt
stmts-returns-in_err-stmt t c =
    let p = err_from_is_err_and c.from_residual.result c.from_residual.ensures.1 in
    let h = rw c.loop-alloc-test.ensures.1 at c.in_err-stmt.ensures in
    rw (p.1, p.2) (due-stop _ _ _ _ _ (StmtsSoFar-stop (read_stmt (read_expr most_expr_levels) (body_at c.args.inner)) c.args.cursor.now c.loop-alloc.cursor c.loop-alloc.stmts c.loop-alloc.invariant c.loop-alloc-test.ensures.0) h)

pub stmts-loop-alloc-smaller : goal.stmts-loop-alloc-smaller
stmts-loop-alloc-smaller t c =
    let e = rw c.loop-alloc-test.ensures.1 at c.in_ok-stmt.ensures in
    stmt-shorter c.args.inner c.loop-alloc.cursor c.stmt.new.cursor c.in_ok-stmt.stmt e

pub stmts-loop-alloc-preserved : goal.stmts-loop-alloc-preserved
stmts-loop-alloc-preserved t c =
    let e = rw c.loop-alloc-test.ensures.1 at c.in_ok-stmt.ensures in
    rw c.in_ok-push.ensures.ok (StmtsSoFar-next (read_stmt (read_expr most_expr_levels) (body_at c.args.inner)) c.args.cursor.now c.loop-alloc.cursor c.stmt.new.cursor c.loop-alloc.stmts c.in_ok-stmt.stmt c.loop-alloc.invariant c.loop-alloc-test.ensures.0 e
    (stmt-shorter c.args.inner c.loop-alloc.cursor c.stmt.new.cursor c.in_ok-stmt.stmt e))

pub stmts-returns : goal.stmts-returns
stmts-returns t c = StmtsSoFar-all (read_stmt (read_expr most_expr_levels) (body_at c.args.inner)) c.args.cursor.now c.loop-alloc.cursor _ c.loop-alloc.stmts c.loop-alloc.invariant c.loop-alloc-test.ensures
