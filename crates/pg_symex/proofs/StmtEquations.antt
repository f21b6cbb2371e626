-- The equations of what statements are made of, one for each form.
use Rattle.std.proofs.Common.{◌≡◌, List, map, Option, ap}
use Rattle.std.specs.Option.{option_map}
use Rattle.pg_ast.specs.declared.name.Name.{Name as Names}
use Rattle.pg_ast.specs.declared.tree.Expr.{Expr}
use Rattle.pg_ast.specs.declared.tree.Stmt.{Stmt}
use Rattle.pg_ast.specs.declared.tree.Stmt.TheVariants.{Let, Store, Pc, Mode, Rel, Bound, Trap, If}
use Rattle.pg_lang_meaning.proofs.Folds.{stmt-bound, stmt-if, stmt-let, stmt-mode, stmt-pc, stmt-rel, stmt-store, stmt-trap}
use Rattle.pg_symex.specs.Flow.{SymEntry, SymRun}
use Rattle.pg_symex.specs.Exprs.{bit_0}
use Rattle.pg_symex.specs.Stmts.{SymDeed, with_expr, let_made, store_made, assign_p, assign_mode, assign_l, assign_b, trap_made, block_made, else_made, if_made, stmt_step, stmt_made}

pub made-let : (n : Names) (e : Expr) (at : SymEntry) (r : SymRun) → stmt_made (Let n e) at r ≡ with_expr e at r (λ x s. let_made n.bytes x s)
unfolding stmt_made
made-let n e at r = ap (λ m. m at r) (stmt-let SymDeed stmt_step n e)

pub made-store : (a e : Expr) (at : SymEntry) (r : SymRun) → stmt_made (Store a e) at r ≡ with_expr a at r (λ address s. with_expr e at s (λ value t. store_made at address value t))
unfolding stmt_made
made-store a e at r = ap (λ m. m at r) (stmt-store SymDeed stmt_step a e)

pub made-pc : (e : Expr) (at : SymEntry) (r : SymRun) → stmt_made (Pc e) at r ≡ with_expr e at r (λ x s. assign_p x s)
unfolding stmt_made
made-pc e at r = ap (λ m. m at r) (stmt-pc SymDeed stmt_step e)

pub made-mode : (e : Expr) (at : SymEntry) (r : SymRun) → stmt_made (Mode e) at r ≡ with_expr e at r (λ x s. assign_mode x s)
unfolding stmt_made
made-mode e at r = ap (λ m. m at r) (stmt-mode SymDeed stmt_step e)

pub made-rel : (e : Expr) (at : SymEntry) (r : SymRun) → stmt_made (Rel e) at r ≡ with_expr e at r (λ x s. assign_l x s)
unfolding stmt_made
made-rel e at r = ap (λ m. m at r) (stmt-rel SymDeed stmt_step e)

pub made-bound : (e : Expr) (at : SymEntry) (r : SymRun) → stmt_made (Bound e) at r ≡ with_expr e at r (λ x s. assign_b x s)
unfolding stmt_made
made-bound e at r = ap (λ m. m at r) (stmt-bound SymDeed stmt_step e)

pub made-trap : (at : SymEntry) (r : SymRun) → stmt_made Trap at r ≡ trap_made r
unfolding stmt_made
made-trap at r = ap (λ m. m at r) (stmt-trap SymDeed stmt_step)

pub made-if : (c : Expr) (held : List Stmt) (other : Option (List Stmt)) (at : SymEntry) (r : SymRun) → stmt_made (If c held other) at r ≡ with_expr c at r (λ test s. if_made (block_made (map stmt_made held)) (else_made (option_map (map stmt_made) other)) at (bit_0 test) s)
unfolding stmt_made
made-if c held other at r = ap (λ m. m at r) (stmt-if SymDeed stmt_step c held other)
