-- What each token of an expression, a statement or a block does to depth. The lists of marks stand beside the lists of
-- tokens that pg_ast defines, one mark for each token.
use Rattle.std.specs.Prelude.{ℕ, suc, Bool, false, ◌||◌, nat_lt, map, List, [], ◌∷◌, ◌++◌, Option, None, Some}
use Rattle.pg_ast.specs.Levels.{most_expr_levels, most_block_levels}
use Rattle.pg_ast.specs.declared.tree.Expr.{Expr}
use Rattle.pg_ast.specs.declared.tree.Expr.TheOpen.{Expr-F, Lit, Name, Pc, Mode, Rel, Bound, Load, Not, Bin, Cat, Cut, Ext, Sext, Sel}
use Rattle.pg_ast.specs.declared.tree.Expr.TheFolds.{fold-Expr}
use Rattle.pg_ast.specs.declared.tree.Stmt.{Stmt}
use Rattle.pg_ast.specs.declared.tree.Stmt.TheOpen.{Stmt-F, Let, Store, Pc as ToPc, Mode as ToMode, Rel as ToRel, Bound as ToBound, Trap, If}
use Rattle.pg_ast.specs.declared.tree.Stmt.TheFolds.{fold-Stmt}

-- what a token does to depth: it begins an expression of this level, opens a block of this level, or neither
pub data Mark : Type 0 where
  Begins : ℕ → Mark
  Opens : ℕ → Mark
  Plain : Mark

-- too deep is what stands below the last level of expressions, or of blocks
abbrev pub is_deep : Mark → Bool
is_deep (Begins n) = nat_lt most_expr_levels n
is_deep (Opens n) = nat_lt most_block_levels n
is_deep Plain = false

-- whether one of these marks is too deep
abbrev pub has_deep : List Mark → Bool
has_deep [] = false
has_deep (m ∷ ms) = is_deep m || has_deep ms

-- one layer of an expression of level n: its first token begins it, and its parts are one level below
abbrev pub expr_marks_step : Expr-F (ℕ → List Mark) → ℕ → List Mark
expr_marks_step (Lit v w) n = Begins n ∷ Plain ∷ Plain ∷ []
expr_marks_step (Name x) n = Begins n ∷ []
expr_marks_step Pc n = Begins n ∷ []
expr_marks_step Mode n = Begins n ∷ []
expr_marks_step Rel n = Begins n ∷ []
expr_marks_step Bound n = Begins n ∷ []
expr_marks_step (Load e) n = Begins n ∷ Plain ∷ e (suc n) ++ Plain ∷ []
expr_marks_step (Not e) n = Begins n ∷ e (suc n)
expr_marks_step (Bin op x y) n = Begins n ∷ x (suc n) ++ Plain ∷ y (suc n) ++ Plain ∷ []
expr_marks_step (Cat x y) n = Begins n ∷ Plain ∷ x (suc n) ++ Plain ∷ y (suc n) ++ Plain ∷ []
expr_marks_step (Cut e h k) n = Begins n ∷ Plain ∷ e (suc n) ++ Plain ∷ Plain ∷ Plain ∷ Plain ∷ Plain ∷ []
expr_marks_step (Ext e w) n = Begins n ∷ Plain ∷ e (suc n) ++ Plain ∷ Plain ∷ Plain ∷ []
expr_marks_step (Sext e w) n = Begins n ∷ Plain ∷ e (suc n) ++ Plain ∷ Plain ∷ Plain ∷ []
expr_marks_step (Sel c x y) n = Begins n ∷ Plain ∷ c (suc n) ++ Plain ∷ x (suc n) ++ Plain ∷ y (suc n) ++ Plain ∷ []

-- the marks of an expression of level n
unfoldable pub expr_marks : Expr → ℕ → List Mark
expr_marks = fold-Expr (ℕ → List Mark) expr_marks_step

-- the marks of statements in which blocks have level n
abbrev pub marks_within : ℕ → List (ℕ → List Mark) → List Mark
marks_within n [] = []
marks_within n (stmt ∷ more) = stmt n ++ marks_within n more

-- a block of level n: its opening brace opens it, and blocks inside are one level below
abbrev pub block_marks : ℕ → List (ℕ → List Mark) → List Mark
block_marks n stmts = Opens n ∷ marks_within (suc n) stmts ++ Plain ∷ []

-- an else whose block has level n, where there is one
abbrev pub else_marks : ℕ → Option (List (ℕ → List Mark)) → List Mark
else_marks n None = []
else_marks n (Some stmts) = Plain ∷ block_marks n stmts

-- an assignment to a register
abbrev pub assign_marks : Expr → List Mark
assign_marks e = Plain ∷ Plain ∷ expr_marks e 1 ++ Plain ∷ []

-- one layer of a statement in which blocks have level n: its expressions have level 1
abbrev pub stmt_marks_step : Stmt-F (ℕ → List Mark) → ℕ → List Mark
stmt_marks_step (Let x e) n = Plain ∷ Plain ∷ Plain ∷ expr_marks e 1 ++ Plain ∷ []
stmt_marks_step (Store a e) n = Plain ∷ Plain ∷ expr_marks a 1 ++ Plain ∷ Plain ∷ expr_marks e 1 ++ Plain ∷ []
stmt_marks_step (ToPc e) n = assign_marks e
stmt_marks_step (ToMode e) n = assign_marks e
stmt_marks_step (ToRel e) n = assign_marks e
stmt_marks_step (ToBound e) n = assign_marks e
stmt_marks_step Trap n = Plain ∷ Plain ∷ []
stmt_marks_step (If c held other) n = Plain ∷ expr_marks c 1 ++ block_marks n held ++ else_marks n other

-- the marks of a statement in which blocks have level n
unfoldable pub stmt_marks : Stmt → ℕ → List Mark
stmt_marks = fold-Stmt (ℕ → List Mark) stmt_marks_step

-- the marks of a body, whose block has level 1
abbrev pub body_marks : List Stmt → List Mark
body_marks body = block_marks 1 (map stmt_marks body)
