use Rattle.std.proofs.Common.{◌≤◌, ◌↔◌, map, drop}
use Rattle.pg_ast.specs.Levels.{block_levels, greatest}
use Rattle.pg_ast.proofs.limits.+blocks.Given as goal

abbrev pub invariant-have_blocks_within-loop-stmt : goal.invariant-have_blocks_within-loop-stmt
invariant-have_blocks_within-loop-stmt l = (greatest (map block_levels (drop l.stmt-index l.stmts)) ≤ l.levels) ↔ (greatest (map block_levels l.stmts) ≤ l.levels)
