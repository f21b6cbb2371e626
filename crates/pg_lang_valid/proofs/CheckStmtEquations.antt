-- The equations of what is tested of statements, one for each form.
use Rattle.std.proofs.Common.{◌≡◌, ℕ, ◌++◌, List, [], ◌∷◌, map, Option, None, Some, ap}
use Rattle.std.specs.Option.{option_map}
use Rattle.pg_ast.specs.declared.name.Name.{Name as Names}
use Rattle.pg_ast.specs.declared.tree.Expr.{Expr}
use Rattle.pg_ast.specs.declared.tree.Stmt.{Stmt}
use Rattle.pg_ast.specs.declared.tree.Stmt.TheVariants.{Let, Store, Pc, Mode, Rel, Bound, Trap, If}
use Rattle.pg_lang_valid.specs.Limits.{Tally, both, all_of, if_any, one_access, one_statement, one_let, expr_tally, stmt_tally_step, stmt_tally}
use Rattle.pg_lang_valid.specs.Twice.{all_names, names_if_any, let_names_step, let_names, first_of_two}
use Rattle.pg_lang_valid.specs.Scopes.{Scope, Sight, sight, seen_in_order, seen_if_any, sight_step, sight_of, unknown_name}
use Rattle.pg_lang_meaning.proofs.Folds.{stmt-bound, stmt-if, stmt-let, stmt-mode, stmt-pc, stmt-rel, stmt-store, stmt-trap}

pub stmt_tally-let : (n : Names) (e : Expr) → stmt_tally (Let n e) ≡ both one_statement (both one_let (expr_tally e))
unfolding stmt_tally
stmt_tally-let n e =
    stmt-let Tally stmt_tally_step n e

pub stmt_tally-store : (a e : Expr) → stmt_tally (Store a e) ≡ both one_statement (both one_access (both (expr_tally a) (expr_tally e)))
unfolding stmt_tally
stmt_tally-store a e =
    stmt-store Tally stmt_tally_step a e

pub stmt_tally-pc : (e : Expr) → stmt_tally (Pc e) ≡ both one_statement (expr_tally e)
unfolding stmt_tally
stmt_tally-pc e =
    stmt-pc Tally stmt_tally_step e

pub stmt_tally-mode : (e : Expr) → stmt_tally (Mode e) ≡ both one_statement (expr_tally e)
unfolding stmt_tally
stmt_tally-mode e =
    stmt-mode Tally stmt_tally_step e

pub stmt_tally-rel : (e : Expr) → stmt_tally (Rel e) ≡ both one_statement (expr_tally e)
unfolding stmt_tally
stmt_tally-rel e =
    stmt-rel Tally stmt_tally_step e

pub stmt_tally-bound : (e : Expr) → stmt_tally (Bound e) ≡ both one_statement (expr_tally e)
unfolding stmt_tally
stmt_tally-bound e =
    stmt-bound Tally stmt_tally_step e

pub stmt_tally-trap : stmt_tally Trap ≡ one_statement
unfolding stmt_tally
stmt_tally-trap =
    stmt-trap Tally stmt_tally_step

pub stmt_tally-if : (c : Expr) (held : List Stmt) (other : Option (List Stmt)) → stmt_tally (If c held other) ≡ both one_statement (both (expr_tally c) (both (all_of (map stmt_tally held)) (if_any (option_map (map stmt_tally) other))))
unfolding stmt_tally
stmt_tally-if c held other = stmt-if Tally stmt_tally_step c held other

pub stmt_tally-if_none : (c : Expr) (held : List Stmt) → stmt_tally (If c held None) ≡ both one_statement (both (expr_tally c) (both (all_of (map stmt_tally held)) (if_any (None))))
stmt_tally-if_none c held = stmt_tally-if c held None

pub stmt_tally-if_some : (c : Expr) (held stmts : List Stmt) → stmt_tally (If c held (Some stmts)) ≡ both one_statement (both (expr_tally c) (both (all_of (map stmt_tally held)) (if_any ((Some (map stmt_tally stmts))))))
stmt_tally-if_some c held stmts = stmt_tally-if c held (Some stmts)

pub ruleset stmt_tally_rules = (stmt_tally-let, stmt_tally-store, stmt_tally-pc, stmt_tally-mode, stmt_tally-rel, stmt_tally-bound, stmt_tally-trap, stmt_tally-if_none, stmt_tally-if_some)

pub let_names-let : (n : Names) (e : Expr) → let_names (Let n e) ≡ n.bytes ∷ []
unfolding let_names
let_names-let n e =
    stmt-let (List (List ℕ)) let_names_step n e

pub let_names-store : (a e : Expr) → let_names (Store a e) ≡ []
unfolding let_names
let_names-store a e =
    stmt-store (List (List ℕ)) let_names_step a e

pub let_names-pc : (e : Expr) → let_names (Pc e) ≡ []
unfolding let_names
let_names-pc e =
    stmt-pc (List (List ℕ)) let_names_step e

pub let_names-mode : (e : Expr) → let_names (Mode e) ≡ []
unfolding let_names
let_names-mode e =
    stmt-mode (List (List ℕ)) let_names_step e

pub let_names-rel : (e : Expr) → let_names (Rel e) ≡ []
unfolding let_names
let_names-rel e =
    stmt-rel (List (List ℕ)) let_names_step e

pub let_names-bound : (e : Expr) → let_names (Bound e) ≡ []
unfolding let_names
let_names-bound e =
    stmt-bound (List (List ℕ)) let_names_step e

pub let_names-trap : let_names Trap ≡ []
unfolding let_names
let_names-trap =
    stmt-trap (List (List ℕ)) let_names_step

pub let_names-if : (c : Expr) (held : List Stmt) (other : Option (List Stmt)) → let_names (If c held other) ≡ all_names (map let_names held) ++ names_if_any (option_map (map let_names) other)
unfolding let_names
let_names-if c held other = stmt-if (List (List ℕ)) let_names_step c held other

pub let_names-if_none : (c : Expr) (held : List Stmt) → let_names (If c held None) ≡ all_names (map let_names held) ++ names_if_any (None)
let_names-if_none c held = let_names-if c held None

pub let_names-if_some : (c : Expr) (held stmts : List Stmt) → let_names (If c held (Some stmts)) ≡ all_names (map let_names held) ++ names_if_any ((Some (map let_names stmts)))
let_names-if_some c held stmts = let_names-if c held (Some stmts)

pub ruleset let_names_rules = (let_names-let, let_names-store, let_names-pc, let_names-mode, let_names-rel, let_names-bound, let_names-trap, let_names-if_none, let_names-if_some)

pub sight_of-let : (pattern : List ℕ) (n : Names) (e : Expr) (scope : Scope) → sight_of pattern (Let n e) scope ≡ sight (unknown_name pattern e scope) (scope ++ n.bytes ∷ [])
unfolding sight_of
sight_of-let pattern n e scope =
    ap (λ f. f scope) (stmt-let (Scope → Sight) (sight_step pattern) n e)

pub sight_of-store : (pattern : List ℕ) (a e : Expr) (scope : Scope) → sight_of pattern (Store a e) scope ≡ sight (first_of_two (unknown_name pattern a scope) (unknown_name pattern e scope)) scope
unfolding sight_of
sight_of-store pattern a e scope =
    ap (λ f. f scope) (stmt-store (Scope → Sight) (sight_step pattern) a e)

pub sight_of-pc : (pattern : List ℕ) (e : Expr) (scope : Scope) → sight_of pattern (Pc e) scope ≡ sight (unknown_name pattern e scope) scope
unfolding sight_of
sight_of-pc pattern e scope =
    ap (λ f. f scope) (stmt-pc (Scope → Sight) (sight_step pattern) e)

pub sight_of-mode : (pattern : List ℕ) (e : Expr) (scope : Scope) → sight_of pattern (Mode e) scope ≡ sight (unknown_name pattern e scope) scope
unfolding sight_of
sight_of-mode pattern e scope =
    ap (λ f. f scope) (stmt-mode (Scope → Sight) (sight_step pattern) e)

pub sight_of-rel : (pattern : List ℕ) (e : Expr) (scope : Scope) → sight_of pattern (Rel e) scope ≡ sight (unknown_name pattern e scope) scope
unfolding sight_of
sight_of-rel pattern e scope =
    ap (λ f. f scope) (stmt-rel (Scope → Sight) (sight_step pattern) e)

pub sight_of-bound : (pattern : List ℕ) (e : Expr) (scope : Scope) → sight_of pattern (Bound e) scope ≡ sight (unknown_name pattern e scope) scope
unfolding sight_of
sight_of-bound pattern e scope =
    ap (λ f. f scope) (stmt-bound (Scope → Sight) (sight_step pattern) e)

pub sight_of-trap : (pattern : List ℕ) (scope : Scope) → sight_of pattern Trap scope ≡ sight None scope
unfolding sight_of
sight_of-trap pattern scope =
    ap (λ f. f scope) (stmt-trap (Scope → Sight) (sight_step pattern))

pub sight_of-if : (pattern : List ℕ) (c : Expr) (held : List Stmt) (other : Option (List Stmt)) (scope : Scope) → sight_of pattern (If c held other) scope ≡ sight (first_of_two (unknown_name pattern c scope) (first_of_two (seen_in_order (map (sight_of pattern) held) scope) (seen_if_any (option_map (map (sight_of pattern)) other) scope))) scope
unfolding sight_of
sight_of-if pattern c held other scope = ap (λ f. f scope) (stmt-if (Scope → Sight) (sight_step pattern) c held other)

pub sight_of-if_none : (pattern : List ℕ) (c : Expr) (held : List Stmt) (scope : Scope) → sight_of pattern (If c held None) scope ≡ sight (first_of_two (unknown_name pattern c scope) (first_of_two (seen_in_order (map (sight_of pattern) held) scope) (seen_if_any (None) scope))) scope
sight_of-if_none pattern c held scope = sight_of-if pattern c held None scope

pub sight_of-if_some : (pattern : List ℕ) (c : Expr) (held stmts : List Stmt) (scope : Scope) → sight_of pattern (If c held (Some stmts)) scope ≡ sight (first_of_two (unknown_name pattern c scope) (first_of_two (seen_in_order (map (sight_of pattern) held) scope) (seen_if_any ((Some (map (sight_of pattern) stmts))) scope))) scope
sight_of-if_some pattern c held stmts scope = sight_of-if pattern c held (Some stmts) scope

pub ruleset sight_of_rules = (sight_of-let, sight_of-store, sight_of-pc, sight_of-mode, sight_of-rel, sight_of-bound, sight_of-trap, sight_of-if_none, sight_of-if_some)
