use Rattle.std.proofs.Common.{◌≡◌, ◌++◌, drop}
use Rattle.pg_ast.proofs.copying.+stmts.Given as goal

abbrev pub invariant-block_copied-loop-stmt : goal.invariant-block_copied-loop-stmt
invariant-block_copied-loop-stmt l = l.copy ++ drop l.stmt-index l.stmts ≡ l.stmts
