-- What a fold over expressions or statements makes of each form: whatever the step is, one layer of it.
use Rattle.std.proofs.Common.{◌≡◌, ℕ, List, map, Option, None, Some, ap, sym, ◌∙◌}
use Rattle.std.specs.Option.{option_map}
use Rattle.pg_ast.specs.declared.name.Name.{Name as Names}
use Rattle.pg_ast.specs.declared.tree.Op.{Op}
use Rattle.pg_ast.specs.declared.tree.Expr.{Expr}
use Rattle.pg_ast.specs.declared.tree.Expr.TheVariants as exprs
use Rattle.pg_ast.specs.declared.tree.Expr.TheOpen as Layer
use Rattle.pg_ast.specs.declared.tree.Expr.TheFolds.{fold-Expr, fold-roll-Expr}
use Rattle.pg_ast.specs.declared.tree.Stmt.{Stmt}
use Rattle.pg_ast.specs.declared.tree.Stmt.TheVariants as stmts
use Rattle.pg_ast.specs.declared.tree.Stmt.TheOpen as Block
use Rattle.pg_ast.specs.declared.tree.Stmt.TheFolds.{fold-Stmt, fold-roll-Stmt}

pub expr-lit : (C : Type 0) (step : Layer.Expr-F C → C) (v w : ℕ) → fold-Expr C step (exprs.Lit v w) ≡ step (Layer.Lit v w)
expr-lit C step v w = ap (fold-Expr C step) (sym (exprs.rolls-Lit v w)) ∙ fold-roll-Expr C step (Layer.Lit v w)

pub expr-name : (C : Type 0) (step : Layer.Expr-F C → C) (n : Names) → fold-Expr C step (exprs.Name n) ≡ step (Layer.Name n)
expr-name C step n = ap (fold-Expr C step) (sym (exprs.rolls-Name n)) ∙ fold-roll-Expr C step (Layer.Name n)

pub expr-pc : (C : Type 0) (step : Layer.Expr-F C → C) → fold-Expr C step exprs.Pc ≡ step Layer.Pc
expr-pc C step = ap (fold-Expr C step) (sym exprs.rolls-Pc) ∙ fold-roll-Expr C step Layer.Pc

pub expr-mode : (C : Type 0) (step : Layer.Expr-F C → C) → fold-Expr C step exprs.Mode ≡ step Layer.Mode
expr-mode C step = ap (fold-Expr C step) (sym exprs.rolls-Mode) ∙ fold-roll-Expr C step Layer.Mode

pub expr-rel : (C : Type 0) (step : Layer.Expr-F C → C) → fold-Expr C step exprs.Rel ≡ step Layer.Rel
expr-rel C step = ap (fold-Expr C step) (sym exprs.rolls-Rel) ∙ fold-roll-Expr C step Layer.Rel

pub expr-bound : (C : Type 0) (step : Layer.Expr-F C → C) → fold-Expr C step exprs.Bound ≡ step Layer.Bound
expr-bound C step = ap (fold-Expr C step) (sym exprs.rolls-Bound) ∙ fold-roll-Expr C step Layer.Bound

pub expr-load : (C : Type 0) (step : Layer.Expr-F C → C) (e : Expr) → fold-Expr C step (exprs.Load e) ≡ step (Layer.Load (fold-Expr C step e))
expr-load C step e = ap (fold-Expr C step) (sym (exprs.rolls-Load e)) ∙ fold-roll-Expr C step (Layer.Load e)

pub expr-not : (C : Type 0) (step : Layer.Expr-F C → C) (e : Expr) → fold-Expr C step (exprs.Not e) ≡ step (Layer.Not (fold-Expr C step e))
expr-not C step e = ap (fold-Expr C step) (sym (exprs.rolls-Not e)) ∙ fold-roll-Expr C step (Layer.Not e)

pub expr-bin : (C : Type 0) (step : Layer.Expr-F C → C) (op : Op) (x y : Expr) → fold-Expr C step (exprs.Bin op x y) ≡ step (Layer.Bin op (fold-Expr C step x) (fold-Expr C step y))
expr-bin C step op x y = ap (fold-Expr C step) (sym (exprs.rolls-Bin op x y)) ∙ fold-roll-Expr C step (Layer.Bin op x y)

pub expr-cat : (C : Type 0) (step : Layer.Expr-F C → C) (x y : Expr) → fold-Expr C step (exprs.Cat x y) ≡ step (Layer.Cat (fold-Expr C step x) (fold-Expr C step y))
expr-cat C step x y = ap (fold-Expr C step) (sym (exprs.rolls-Cat x y)) ∙ fold-roll-Expr C step (Layer.Cat x y)

pub expr-cut : (C : Type 0) (step : Layer.Expr-F C → C) (e : Expr) (h k : ℕ) → fold-Expr C step (exprs.Cut e h k) ≡ step (Layer.Cut (fold-Expr C step e) h k)
expr-cut C step e h k = ap (fold-Expr C step) (sym (exprs.rolls-Cut e h k)) ∙ fold-roll-Expr C step (Layer.Cut e h k)

pub expr-ext : (C : Type 0) (step : Layer.Expr-F C → C) (e : Expr) (n : ℕ) → fold-Expr C step (exprs.Ext e n) ≡ step (Layer.Ext (fold-Expr C step e) n)
expr-ext C step e n = ap (fold-Expr C step) (sym (exprs.rolls-Ext e n)) ∙ fold-roll-Expr C step (Layer.Ext e n)

pub expr-sext : (C : Type 0) (step : Layer.Expr-F C → C) (e : Expr) (n : ℕ) → fold-Expr C step (exprs.Sext e n) ≡ step (Layer.Sext (fold-Expr C step e) n)
expr-sext C step e n = ap (fold-Expr C step) (sym (exprs.rolls-Sext e n)) ∙ fold-roll-Expr C step (Layer.Sext e n)

pub expr-sel : (C : Type 0) (step : Layer.Expr-F C → C) (c x y : Expr) → fold-Expr C step (exprs.Sel c x y) ≡ step (Layer.Sel (fold-Expr C step c) (fold-Expr C step x) (fold-Expr C step y))
expr-sel C step c x y = ap (fold-Expr C step) (sym (exprs.rolls-Sel c x y)) ∙ fold-roll-Expr C step (Layer.Sel c x y)

pub stmt-let : (C : Type 0) (step : Block.Stmt-F C → C) (n : Names) (e : Expr) → fold-Stmt C step (stmts.Let n e) ≡ step (Block.Let n e)
stmt-let C step n e = ap (fold-Stmt C step) (sym (stmts.rolls-Let n e)) ∙ fold-roll-Stmt C step (Block.Let n e)

pub stmt-store : (C : Type 0) (step : Block.Stmt-F C → C) (a e : Expr) → fold-Stmt C step (stmts.Store a e) ≡ step (Block.Store a e)
stmt-store C step a e = ap (fold-Stmt C step) (sym (stmts.rolls-Store a e)) ∙ fold-roll-Stmt C step (Block.Store a e)

pub stmt-pc : (C : Type 0) (step : Block.Stmt-F C → C) (e : Expr) → fold-Stmt C step (stmts.Pc e) ≡ step (Block.Pc e)
stmt-pc C step e = ap (fold-Stmt C step) (sym (stmts.rolls-Pc e)) ∙ fold-roll-Stmt C step (Block.Pc e)

pub stmt-mode : (C : Type 0) (step : Block.Stmt-F C → C) (e : Expr) → fold-Stmt C step (stmts.Mode e) ≡ step (Block.Mode e)
stmt-mode C step e = ap (fold-Stmt C step) (sym (stmts.rolls-Mode e)) ∙ fold-roll-Stmt C step (Block.Mode e)

pub stmt-rel : (C : Type 0) (step : Block.Stmt-F C → C) (e : Expr) → fold-Stmt C step (stmts.Rel e) ≡ step (Block.Rel e)
stmt-rel C step e = ap (fold-Stmt C step) (sym (stmts.rolls-Rel e)) ∙ fold-roll-Stmt C step (Block.Rel e)

pub stmt-bound : (C : Type 0) (step : Block.Stmt-F C → C) (e : Expr) → fold-Stmt C step (stmts.Bound e) ≡ step (Block.Bound e)
stmt-bound C step e = ap (fold-Stmt C step) (sym (stmts.rolls-Bound e)) ∙ fold-roll-Stmt C step (Block.Bound e)

pub stmt-trap : (C : Type 0) (step : Block.Stmt-F C → C) → fold-Stmt C step stmts.Trap ≡ step Block.Trap
stmt-trap C step = ap (fold-Stmt C step) (sym stmts.rolls-Trap) ∙ fold-roll-Stmt C step Block.Trap

pub stmt-if : (C : Type 0) (step : Block.Stmt-F C → C) (c : Expr) (held : List Stmt) (other : Option (List Stmt)) →
    fold-Stmt C step (stmts.If c held other) ≡ step (Block.If c (map (fold-Stmt C step) held) (option_map (map (fold-Stmt C step)) other))
stmt-if C step c held None = ap (fold-Stmt C step) (sym (stmts.rolls-If c held None)) ∙ fold-roll-Stmt C step (Block.If c held None)
stmt-if C step c held (Some other) =
    ap (fold-Stmt C step) (sym (stmts.rolls-If c held (Some other))) ∙ fold-roll-Stmt C step (Block.If c held (Some other))
