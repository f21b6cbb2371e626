use Rattle.std.proofs.Common.{◌≤◌, ◌↔◌, map, drop}
use Rattle.pg_ast.specs.Levels.{expr_levels, greatest}
use Rattle.pg_ast.proofs.limits.+exprs.Given as goal

abbrev pub invariant-have_exprs_within-loop-stmt : goal.invariant-have_exprs_within-loop-stmt
invariant-have_exprs_within-loop-stmt l = (greatest (map expr_levels (drop l.stmt-index l.stmts)) ≤ l.levels) ↔ (greatest (map expr_levels l.stmts) ≤ l.levels)
