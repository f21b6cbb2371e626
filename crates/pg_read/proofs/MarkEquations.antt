-- The equations of the marks, one for each form of expressions and statements.
use Rattle.std.proofs.Common.{◌≡◌, ℕ, suc, map, List, [], ◌∷◌, ◌++◌, Option, None, Some, ap, sym, ◌∙◌}
use Rattle.std.specs.Option.{option_map}
use Rattle.pg_ast.specs.declared.name.Name.{Name as Names}
use Rattle.pg_ast.specs.declared.tree.Op.{Op}
use Rattle.pg_ast.specs.declared.tree.Expr.{Expr}
use Rattle.pg_ast.specs.declared.tree.Expr.TheVariants.{Lit, Name, Pc, Mode, Rel, Bound, Load, Not, Bin, Cat, Cut, Ext, Sext, Sel, rolls-Lit, rolls-Name, rolls-Pc, rolls-Mode, rolls-Rel, rolls-Bound, rolls-Load, rolls-Not, rolls-Bin, rolls-Cat, rolls-Cut, rolls-Ext, rolls-Sext, rolls-Sel}
use Rattle.pg_ast.specs.declared.tree.Expr.TheOpen as Open
use Rattle.pg_ast.specs.declared.tree.Expr.TheFolds.{fold-roll-Expr}
use Rattle.pg_ast.specs.declared.tree.Stmt.{Stmt}
use Rattle.pg_ast.specs.declared.tree.Stmt.TheVariants.{Let, Store, Pc as ToPc, Mode as ToMode, Rel as ToRel, Bound as ToBound, Trap, If, rolls-Let, rolls-Store, rolls-Pc as rolls-ToPc, rolls-Mode as rolls-ToMode, rolls-Rel as rolls-ToRel, rolls-Bound as rolls-ToBound, rolls-Trap, rolls-If}
use Rattle.pg_ast.specs.declared.tree.Stmt.TheOpen as OpenStmt
use Rattle.pg_ast.specs.declared.tree.Stmt.TheFolds.{fold-roll-Stmt}
use Rattle.pg_read.specs.Marks.{Mark, Begins, Plain, expr_marks, expr_marks_step, stmt_marks, stmt_marks_step, assign_marks, block_marks, else_marks}

pub expr_marks-lit : (v w : ℕ) (n : ℕ) → expr_marks (Lit v w) n ≡ Begins n ∷ Plain ∷ Plain ∷ []
unfolding expr_marks
expr_marks-lit v w n = ap (λ z. expr_marks z n) (sym (rolls-Lit v w)) ∙ ap (λ f. f n) (fold-roll-Expr (ℕ → List Mark) expr_marks_step (Open.Lit v w))

pub expr_marks-name : (x : Names) (n : ℕ) → expr_marks (Name x) n ≡ Begins n ∷ []
unfolding expr_marks
expr_marks-name x n = ap (λ z. expr_marks z n) (sym (rolls-Name x)) ∙ ap (λ f. f n) (fold-roll-Expr (ℕ → List Mark) expr_marks_step (Open.Name x))

pub expr_marks-pc : (n : ℕ) → expr_marks Pc n ≡ Begins n ∷ []
unfolding expr_marks
expr_marks-pc n = ap (λ z. expr_marks z n) (sym rolls-Pc) ∙ ap (λ f. f n) (fold-roll-Expr (ℕ → List Mark) expr_marks_step Open.Pc)

pub expr_marks-mode : (n : ℕ) → expr_marks Mode n ≡ Begins n ∷ []
unfolding expr_marks
expr_marks-mode n = ap (λ z. expr_marks z n) (sym rolls-Mode) ∙ ap (λ f. f n) (fold-roll-Expr (ℕ → List Mark) expr_marks_step Open.Mode)

pub expr_marks-rel : (n : ℕ) → expr_marks Rel n ≡ Begins n ∷ []
unfolding expr_marks
expr_marks-rel n = ap (λ z. expr_marks z n) (sym rolls-Rel) ∙ ap (λ f. f n) (fold-roll-Expr (ℕ → List Mark) expr_marks_step Open.Rel)

pub expr_marks-bound : (n : ℕ) → expr_marks Bound n ≡ Begins n ∷ []
unfolding expr_marks
expr_marks-bound n = ap (λ z. expr_marks z n) (sym rolls-Bound) ∙ ap (λ f. f n) (fold-roll-Expr (ℕ → List Mark) expr_marks_step Open.Bound)

pub expr_marks-load : (e : Expr) (n : ℕ) → expr_marks (Load e) n ≡ Begins n ∷ Plain ∷ expr_marks e (suc n) ++ Plain ∷ []
unfolding expr_marks
expr_marks-load e n = ap (λ z. expr_marks z n) (sym (rolls-Load e)) ∙ ap (λ f. f n) (fold-roll-Expr (ℕ → List Mark) expr_marks_step (Open.Load e))

pub expr_marks-not : (e : Expr) (n : ℕ) → expr_marks (Not e) n ≡ Begins n ∷ expr_marks e (suc n)
unfolding expr_marks
expr_marks-not e n = ap (λ z. expr_marks z n) (sym (rolls-Not e)) ∙ ap (λ f. f n) (fold-roll-Expr (ℕ → List Mark) expr_marks_step (Open.Not e))

pub expr_marks-bin : (op : Op) (x y : Expr) (n : ℕ) → expr_marks (Bin op x y) n ≡ Begins n ∷ expr_marks x (suc n) ++ Plain ∷ expr_marks y (suc n) ++ Plain ∷ []
unfolding expr_marks
expr_marks-bin op x y n = ap (λ z. expr_marks z n) (sym (rolls-Bin op x y)) ∙ ap (λ f. f n) (fold-roll-Expr (ℕ → List Mark) expr_marks_step (Open.Bin op x y))

pub expr_marks-cat : (x y : Expr) (n : ℕ) → expr_marks (Cat x y) n ≡ Begins n ∷ Plain ∷ expr_marks x (suc n) ++ Plain ∷ expr_marks y (suc n) ++ Plain ∷ []
unfolding expr_marks
expr_marks-cat x y n = ap (λ z. expr_marks z n) (sym (rolls-Cat x y)) ∙ ap (λ f. f n) (fold-roll-Expr (ℕ → List Mark) expr_marks_step (Open.Cat x y))

pub expr_marks-cut : (e : Expr) (h k : ℕ) (n : ℕ) → expr_marks (Cut e h k) n ≡ Begins n ∷ Plain ∷ expr_marks e (suc n) ++ Plain ∷ Plain ∷ Plain ∷ Plain ∷ Plain ∷ []
unfolding expr_marks
expr_marks-cut e h k n = ap (λ z. expr_marks z n) (sym (rolls-Cut e h k)) ∙ ap (λ f. f n) (fold-roll-Expr (ℕ → List Mark) expr_marks_step (Open.Cut e h k))

pub expr_marks-ext : (e : Expr) (w : ℕ) (n : ℕ) → expr_marks (Ext e w) n ≡ Begins n ∷ Plain ∷ expr_marks e (suc n) ++ Plain ∷ Plain ∷ Plain ∷ []
unfolding expr_marks
expr_marks-ext e w n = ap (λ z. expr_marks z n) (sym (rolls-Ext e w)) ∙ ap (λ f. f n) (fold-roll-Expr (ℕ → List Mark) expr_marks_step (Open.Ext e w))

pub expr_marks-sext : (e : Expr) (w : ℕ) (n : ℕ) → expr_marks (Sext e w) n ≡ Begins n ∷ Plain ∷ expr_marks e (suc n) ++ Plain ∷ Plain ∷ Plain ∷ []
unfolding expr_marks
expr_marks-sext e w n = ap (λ z. expr_marks z n) (sym (rolls-Sext e w)) ∙ ap (λ f. f n) (fold-roll-Expr (ℕ → List Mark) expr_marks_step (Open.Sext e w))

pub expr_marks-sel : (c x y : Expr) (n : ℕ) → expr_marks (Sel c x y) n ≡ Begins n ∷ Plain ∷ expr_marks c (suc n) ++ Plain ∷ expr_marks x (suc n) ++ Plain ∷ expr_marks y (suc n) ++ Plain ∷ []
unfolding expr_marks
expr_marks-sel c x y n = ap (λ z. expr_marks z n) (sym (rolls-Sel c x y)) ∙ ap (λ f. f n) (fold-roll-Expr (ℕ → List Mark) expr_marks_step (Open.Sel c x y))

pub stmt_marks-let : (x : Names) (e : Expr) (n : ℕ) → stmt_marks (Let x e) n ≡ Plain ∷ Plain ∷ Plain ∷ expr_marks e 1 ++ Plain ∷ []
unfolding stmt_marks
stmt_marks-let x e n = ap (λ z. stmt_marks z n) (sym (rolls-Let x e)) ∙ ap (λ f. f n) (fold-roll-Stmt (ℕ → List Mark) stmt_marks_step (OpenStmt.Let x e))

pub stmt_marks-store : (a e : Expr) (n : ℕ) → stmt_marks (Store a e) n ≡ Plain ∷ Plain ∷ expr_marks a 1 ++ Plain ∷ Plain ∷ expr_marks e 1 ++ Plain ∷ []
unfolding stmt_marks
stmt_marks-store a e n = ap (λ z. stmt_marks z n) (sym (rolls-Store a e)) ∙ ap (λ f. f n) (fold-roll-Stmt (ℕ → List Mark) stmt_marks_step (OpenStmt.Store a e))

pub stmt_marks-pc : (e : Expr) (n : ℕ) → stmt_marks (ToPc e) n ≡ assign_marks e
unfolding stmt_marks
stmt_marks-pc e n = ap (λ z. stmt_marks z n) (sym (rolls-ToPc e)) ∙ ap (λ f. f n) (fold-roll-Stmt (ℕ → List Mark) stmt_marks_step (OpenStmt.Pc e))

pub stmt_marks-mode : (e : Expr) (n : ℕ) → stmt_marks (ToMode e) n ≡ assign_marks e
unfolding stmt_marks
stmt_marks-mode e n = ap (λ z. stmt_marks z n) (sym (rolls-ToMode e)) ∙ ap (λ f. f n) (fold-roll-Stmt (ℕ → List Mark) stmt_marks_step (OpenStmt.Mode e))

pub stmt_marks-rel : (e : Expr) (n : ℕ) → stmt_marks (ToRel e) n ≡ assign_marks e
unfolding stmt_marks
stmt_marks-rel e n = ap (λ z. stmt_marks z n) (sym (rolls-ToRel e)) ∙ ap (λ f. f n) (fold-roll-Stmt (ℕ → List Mark) stmt_marks_step (OpenStmt.Rel e))

pub stmt_marks-bound : (e : Expr) (n : ℕ) → stmt_marks (ToBound e) n ≡ assign_marks e
unfolding stmt_marks
stmt_marks-bound e n = ap (λ z. stmt_marks z n) (sym (rolls-ToBound e)) ∙ ap (λ f. f n) (fold-roll-Stmt (ℕ → List Mark) stmt_marks_step (OpenStmt.Bound e))

pub stmt_marks-trap : (n : ℕ) → stmt_marks Trap n ≡ Plain ∷ Plain ∷ []
unfolding stmt_marks
stmt_marks-trap n = ap (λ z. stmt_marks z n) (sym rolls-Trap) ∙ ap (λ f. f n) (fold-roll-Stmt (ℕ → List Mark) stmt_marks_step OpenStmt.Trap)

pub stmt_marks-if : (c : Expr) (held : List Stmt) (other : Option (List Stmt)) (n : ℕ) → stmt_marks (If c held other) n ≡ Plain ∷ expr_marks c 1 ++ block_marks n (map stmt_marks held) ++ else_marks n (option_map (map stmt_marks) other)
unfolding stmt_marks
stmt_marks-if c held None n = ap (λ z. stmt_marks z n) (sym (rolls-If c held None)) ∙ ap (λ f. f n) (fold-roll-Stmt (ℕ → List Mark) stmt_marks_step (OpenStmt.If c held None))
stmt_marks-if c held (Some stmts) n = ap (λ z. stmt_marks z n) (sym (rolls-If c held (Some stmts))) ∙ ap (λ f. f n) (fold-roll-Stmt (ℕ → List Mark) stmt_marks_step (OpenStmt.If c held (Some stmts)))
