use Rattle.std.proofs.Common.{◌+◌, ◌*◌, length}
use Rattle.pg_ast.specs.Levels.{most_expr_levels}
use Rattle.pg_ast.specs.Reading.{read_expr, read_stmt}
use Rattle.pg_read.specs.Blocks.{body_at}
use Rattle.pg_read.proofs.BlockLemmas.{StmtsSoFar}
use Rattle.pg_read.proofs.stmts.+stmts.Given as goal

abbrev pub decreases-body : goal.decreases-body
decreases-body l = 8 * l.levels

abbrev pub decreases-block : goal.decreases-block
decreases-block l = 8 * l.levels + 1

abbrev pub decreases-other_block : goal.decreases-other_block
decreases-other_block l = 8 * l.inner + 2

abbrev pub decreases-choice : goal.decreases-choice
decreases-choice l = 8 * l.inner + 3

abbrev pub decreases-keyword : goal.decreases-keyword
decreases-keyword l = 8 * l.inner + 4

abbrev pub decreases-stmt : goal.decreases-stmt
decreases-stmt l = 8 * l.inner + 6

abbrev pub decreases-word : goal.decreases-word
decreases-word l = 8 * l.inner + 5

abbrev pub decreases-stmts : goal.decreases-stmts
decreases-stmts l = 8 * l.inner + 7

abbrev pub invariant-stmts-loop-alloc : goal.invariant-stmts-loop-alloc
invariant-stmts-loop-alloc l = StmtsSoFar (read_stmt (read_expr most_expr_levels) (body_at l.inner)) l.fn.cursor l.cursor l.stmts

abbrev pub decreases-stmts-loop-alloc : goal.decreases-stmts-loop-alloc
decreases-stmts-loop-alloc l = length l.cursor
