-- How deep a tree is: levels of expressions, and of blocks.
use Rattle.std.specs.Prelude.{ℕ, ◌+◌, ◌≤◌, max, map, List, [], ◌∷◌, Option, None, Some}
use Rattle.pg_ast.specs.declared.tree.Expr.{Expr}
use Rattle.pg_ast.specs.declared.tree.Expr.TheOpen.{Expr-F, Lit, Name, Pc, Mode, Rel, Bound, Load, Not, Bin, Cat, Cut, Ext, Sext, Sel}
use Rattle.pg_ast.specs.declared.tree.Expr.TheFolds.{fold-Expr}
use Rattle.pg_ast.specs.declared.tree.Stmt.{Stmt}
use Rattle.pg_ast.specs.declared.tree.Stmt.TheOpen.{Stmt-F, Let, Store, Pc as ToPc, Mode as ToMode, Rel as ToRel, Bound as ToBound, Trap, If}
use Rattle.pg_ast.specs.declared.tree.Stmt.TheFolds.{fold-Stmt}

-- the greatest number of a list, or 0
abbrev pub greatest : List ℕ → ℕ
greatest [] = 0
greatest (n ∷ ns) = max n (greatest ns)

-- the greatest number of a list that may be absent, or 0
abbrev pub greatest_of : Option (List ℕ) → ℕ
greatest_of None = 0
greatest_of (Some ns) = greatest ns

abbrev pub depth_step : Expr-F ℕ → ℕ
depth_step (Lit v w) = 1
depth_step (Name n) = 1
depth_step Pc = 1
depth_step Mode = 1
depth_step Rel = 1
depth_step Bound = 1
depth_step (Load e) = 1 + e
depth_step (Not e) = 1 + e
depth_step (Bin op x y) = 1 + max x y
depth_step (Cat x y) = 1 + max x y
depth_step (Cut e h k) = 1 + e
depth_step (Ext e n) = 1 + e
depth_step (Sext e n) = 1 + e
depth_step (Sel c x y) = 1 + max c (max x y)

-- the levels of an expression, itself being the first
unfoldable pub depth_of : Expr → ℕ
depth_of = fold-Expr ℕ depth_step

abbrev pub expr_level_step : Stmt-F ℕ → ℕ
expr_level_step (Let n e) = depth_of e
expr_level_step (Store e v) = max (depth_of e) (depth_of v)
expr_level_step (ToPc e) = depth_of e
expr_level_step (ToMode e) = depth_of e
expr_level_step (ToRel e) = depth_of e
expr_level_step (ToBound e) = depth_of e
expr_level_step Trap = 0
expr_level_step (If c held other) = max (depth_of c) (max (greatest held) (greatest_of other))

-- the levels of the deepest expression in a statement
unfoldable pub expr_levels : Stmt → ℕ
expr_levels = fold-Stmt ℕ expr_level_step

abbrev pub block_level_step : Stmt-F ℕ → ℕ
block_level_step (Let n e) = 0
block_level_step (Store e v) = 0
block_level_step (ToPc e) = 0
block_level_step (ToMode e) = 0
block_level_step (ToRel e) = 0
block_level_step (ToBound e) = 0
block_level_step Trap = 0
block_level_step (If c held other) = 1 + max (greatest held) (greatest_of other)

-- the levels of the blocks inside a statement
unfoldable pub block_levels : Stmt → ℕ
block_levels = fold-Stmt ℕ block_level_step

-- the most levels of an expression, itself being the first, and of blocks, a body itself being the first
abbrev pub most_expr_levels : ℕ
most_expr_levels = 32

abbrev pub most_block_levels : ℕ
most_block_levels = 16

-- the limits that a body keeps
pub record IsShallow (body : List Stmt) : Type 0 where
  pub blocks : 1 + greatest (map block_levels body) ≤ most_block_levels
  pub exprs : greatest (map expr_levels body) ≤ most_expr_levels
