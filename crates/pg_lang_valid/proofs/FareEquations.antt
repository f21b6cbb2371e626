-- The equations of how statements fare, one for each form.
use Rattle.std.proofs.Common.{◌≡◌, ℕ, ◌+◌, List, map, Option, None, Some, ap}
use Rattle.std.specs.Option.{option_map}
use Rattle.pg_ast.specs.declared.name.Name.{Name as Names}
use Rattle.pg_ast.specs.declared.tree.Expr.{Expr}
use Rattle.pg_ast.specs.declared.tree.Stmt.{Stmt}
use Rattle.pg_ast.specs.declared.tree.Stmt.TheVariants.{Let, Store, Pc, Mode, Rel, Bound, Trap, If}
use Rattle.pg_lang_valid.specs.Widths.{Setting, LetWidths, judged_of, Keeps, wants, binds, then_fares, Faring, fares_in_order, fares_if_any, after_block, fare_step, fare_of}
use Rattle.pg_lang_meaning.proofs.Folds.{stmt-bound, stmt-if, stmt-let, stmt-mode, stmt-pc, stmt-rel, stmt-store, stmt-trap}

pub fare_of-let : (n : Names) (e : Expr) (at : Setting) (place : ℕ) (lets : LetWidths) → fare_of at (Let n e) place lets ≡ binds n.bytes (judged_of at e lets) place lets
unfolding fare_of
fare_of-let n e at place lets = ap (λ f. f place lets) (stmt-let Faring (fare_step at) n e)

pub fare_of-store : (a : Expr) (e : Expr) (at : Setting) (place : ℕ) (lets : LetWidths) → fare_of at (Store a e) place lets ≡ then_fares (wants at.a (judged_of at a lets) place lets) (λ next same. wants at.w (judged_of at e lets) place lets)
unfolding fare_of
fare_of-store a e at place lets = ap (λ f. f place lets) (stmt-store Faring (fare_step at) a e)

pub fare_of-pc : (e : Expr) (at : Setting) (place : ℕ) (lets : LetWidths) → fare_of at (Pc e) place lets ≡ wants at.a (judged_of at e lets) place lets
unfolding fare_of
fare_of-pc e at place lets = ap (λ f. f place lets) (stmt-pc Faring (fare_step at) e)

pub fare_of-mode : (e : Expr) (at : Setting) (place : ℕ) (lets : LetWidths) → fare_of at (Mode e) place lets ≡ wants 1 (judged_of at e lets) place lets
unfolding fare_of
fare_of-mode e at place lets = ap (λ f. f place lets) (stmt-mode Faring (fare_step at) e)

pub fare_of-rel : (e : Expr) (at : Setting) (place : ℕ) (lets : LetWidths) → fare_of at (Rel e) place lets ≡ wants at.a (judged_of at e lets) place lets
unfolding fare_of
fare_of-rel e at place lets = ap (λ f. f place lets) (stmt-rel Faring (fare_step at) e)

pub fare_of-bound : (e : Expr) (at : Setting) (place : ℕ) (lets : LetWidths) → fare_of at (Bound e) place lets ≡ wants at.a (judged_of at e lets) place lets
unfolding fare_of
fare_of-bound e at place lets = ap (λ f. f place lets) (stmt-bound Faring (fare_step at) e)

pub fare_of-trap : (at : Setting) (place : ℕ) (lets : LetWidths) → fare_of at Trap place lets ≡ Keeps (place + 1) lets
unfolding fare_of
fare_of-trap at place lets = ap (λ f. f place lets) (stmt-trap Faring (fare_step at))

pub fare_of-if : (c : Expr) (held : List Stmt) (other : Option (List Stmt)) (at : Setting) (place : ℕ) (lets : LetWidths) → fare_of at (If c held other) place lets
    ≡ then_fares (wants 1 (judged_of at c lets) place lets) (λ next same.
    then_fares (after_block lets (fares_in_order (map (fare_of at) held) next lets)) (λ later inner.
    after_block lets (fares_if_any (option_map (map (fare_of at)) other) later lets)))
unfolding fare_of
fare_of-if c held other at place lets = ap (λ f. f place lets) (stmt-if Faring (fare_step at) c held other)

pub fare_of-if_none : (c : Expr) (held : List Stmt) (at : Setting) (place : ℕ) (lets : LetWidths) → fare_of at (If c held None) place lets
    ≡ then_fares (wants 1 (judged_of at c lets) place lets) (λ next same.
    then_fares (after_block lets (fares_in_order (map (fare_of at) held) next lets)) (λ later inner.
    after_block lets (fares_if_any None later lets)))
fare_of-if_none c held at place lets = fare_of-if c held None at place lets

pub fare_of-if_some : (c : Expr) (held stmts : List Stmt) (at : Setting) (place : ℕ) (lets : LetWidths) → fare_of at (If c held (Some stmts)) place lets
    ≡ then_fares (wants 1 (judged_of at c lets) place lets) (λ next same.
    then_fares (after_block lets (fares_in_order (map (fare_of at) held) next lets)) (λ later inner.
    after_block lets (fares_if_any (Some (map (fare_of at) stmts)) later lets)))
fare_of-if_some c held stmts at place lets = fare_of-if c held (Some stmts) at place lets

pub ruleset fare_rules = (fare_of-let, fare_of-store, fare_of-pc, fare_of-mode, fare_of-rel, fare_of-bound, fare_of-trap, fare_of-if_none, fare_of-if_some)
