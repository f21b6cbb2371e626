-- The equations of what is tested of expressions, one for each form.
use Rattle.std.proofs.Common.{◌≡◌, ℕ, ◌||◌, if◌then◌else◌, List, Option, None, Some, ap}
use Rattle.pg_ast.specs.declared.name.Name.{Name as Names}
use Rattle.pg_ast.specs.declared.tree.Op.{Op}
use Rattle.pg_ast.specs.declared.tree.Expr.{Expr}
use Rattle.pg_ast.specs.declared.tree.Expr.TheVariants.{Lit, Name, Pc, Mode, Rel, Bound, Load, Not, Bin, Cat, Cut, Ext, Sext, Sel}
use Rattle.pg_lang_valid.specs.Limits.{Tally, both, one_access, one_expression, expr_tally_step, expr_tally}
use Rattle.pg_lang_valid.specs.Twice.{is_among, is_field, first_of_two}
use Rattle.pg_lang_valid.specs.Scopes.{Scope, unknown_step, unknown_name}
use Rattle.pg_lang_meaning.proofs.Folds.{expr-bin, expr-bound, expr-cat, expr-cut, expr-ext, expr-lit, expr-load, expr-mode, expr-name, expr-not, expr-pc, expr-rel, expr-sel, expr-sext}

pub expr_tally-lit : (v n : ℕ) → expr_tally (Lit v n) ≡ one_expression
unfolding expr_tally
expr_tally-lit v n =
    expr-lit Tally expr_tally_step v n

pub expr_tally-name : (n : Names) → expr_tally (Name n) ≡ one_expression
unfolding expr_tally
expr_tally-name n =
    expr-name Tally expr_tally_step n

pub expr_tally-pc : expr_tally Pc ≡ one_expression
unfolding expr_tally
expr_tally-pc =
    expr-pc Tally expr_tally_step

pub expr_tally-mode : expr_tally Mode ≡ one_expression
unfolding expr_tally
expr_tally-mode =
    expr-mode Tally expr_tally_step

pub expr_tally-rel : expr_tally Rel ≡ one_expression
unfolding expr_tally
expr_tally-rel =
    expr-rel Tally expr_tally_step

pub expr_tally-bound : expr_tally Bound ≡ one_expression
unfolding expr_tally
expr_tally-bound =
    expr-bound Tally expr_tally_step

pub expr_tally-load : (e : Expr) → expr_tally (Load e) ≡ both one_access (both one_expression (expr_tally e))
unfolding expr_tally
expr_tally-load e =
    expr-load Tally expr_tally_step e

pub expr_tally-not : (e : Expr) → expr_tally (Not e) ≡ both one_expression (expr_tally e)
unfolding expr_tally
expr_tally-not e =
    expr-not Tally expr_tally_step e

pub expr_tally-bin : (op : Op) (x y : Expr) → expr_tally (Bin op x y) ≡ both one_expression (both (expr_tally x) (expr_tally y))
unfolding expr_tally
expr_tally-bin op x y =
    expr-bin Tally expr_tally_step op x y

pub expr_tally-cat : (x y : Expr) → expr_tally (Cat x y) ≡ both one_expression (both (expr_tally x) (expr_tally y))
unfolding expr_tally
expr_tally-cat x y =
    expr-cat Tally expr_tally_step x y

pub expr_tally-cut : (e : Expr) (h k : ℕ) → expr_tally (Cut e h k) ≡ both one_expression (expr_tally e)
unfolding expr_tally
expr_tally-cut e h k =
    expr-cut Tally expr_tally_step e h k

pub expr_tally-ext : (e : Expr) (n : ℕ) → expr_tally (Ext e n) ≡ both one_expression (expr_tally e)
unfolding expr_tally
expr_tally-ext e n =
    expr-ext Tally expr_tally_step e n

pub expr_tally-sext : (e : Expr) (n : ℕ) → expr_tally (Sext e n) ≡ both one_expression (expr_tally e)
unfolding expr_tally
expr_tally-sext e n =
    expr-sext Tally expr_tally_step e n

pub expr_tally-sel : (c x y : Expr) → expr_tally (Sel c x y) ≡ both one_expression (both (expr_tally c) (both (expr_tally x) (expr_tally y)))
unfolding expr_tally
expr_tally-sel c x y =
    expr-sel Tally expr_tally_step c x y

pub ruleset expr_tally_rules = (expr_tally-lit, expr_tally-name, expr_tally-pc, expr_tally-mode, expr_tally-rel, expr_tally-bound, expr_tally-load, expr_tally-not, expr_tally-bin, expr_tally-cat, expr_tally-cut, expr_tally-ext, expr_tally-sext, expr_tally-sel)

pub unknown_name-lit : (pattern : List ℕ) (v n : ℕ) (scope : Scope) → unknown_name pattern (Lit v n) scope ≡ None
unfolding unknown_name
unknown_name-lit pattern v n scope =
    ap (λ f. f scope) (expr-lit (Scope → Option (List ℕ)) (λ e. unknown_step e pattern) v n)

pub unknown_name-name : (pattern : List ℕ) (n : Names) (scope : Scope) → unknown_name pattern (Name n) scope ≡ (if is_field pattern n.bytes || is_among scope n.bytes then None else Some n.bytes)
unfolding unknown_name
unknown_name-name pattern n scope =
    ap (λ f. f scope) (expr-name (Scope → Option (List ℕ)) (λ e. unknown_step e pattern) n)

pub unknown_name-pc : (pattern : List ℕ) (scope : Scope) → unknown_name pattern Pc scope ≡ None
unfolding unknown_name
unknown_name-pc pattern scope =
    ap (λ f. f scope) (expr-pc (Scope → Option (List ℕ)) (λ e. unknown_step e pattern))

pub unknown_name-mode : (pattern : List ℕ) (scope : Scope) → unknown_name pattern Mode scope ≡ None
unfolding unknown_name
unknown_name-mode pattern scope =
    ap (λ f. f scope) (expr-mode (Scope → Option (List ℕ)) (λ e. unknown_step e pattern))

pub unknown_name-rel : (pattern : List ℕ) (scope : Scope) → unknown_name pattern Rel scope ≡ None
unfolding unknown_name
unknown_name-rel pattern scope =
    ap (λ f. f scope) (expr-rel (Scope → Option (List ℕ)) (λ e. unknown_step e pattern))

pub unknown_name-bound : (pattern : List ℕ) (scope : Scope) → unknown_name pattern Bound scope ≡ None
unfolding unknown_name
unknown_name-bound pattern scope =
    ap (λ f. f scope) (expr-bound (Scope → Option (List ℕ)) (λ e. unknown_step e pattern))

pub unknown_name-load : (pattern : List ℕ) (e : Expr) (scope : Scope) → unknown_name pattern (Load e) scope ≡ unknown_name pattern e scope
unfolding unknown_name
unknown_name-load pattern e scope =
    ap (λ f. f scope) (expr-load (Scope → Option (List ℕ)) (λ e. unknown_step e pattern) e)

pub unknown_name-not : (pattern : List ℕ) (e : Expr) (scope : Scope) → unknown_name pattern (Not e) scope ≡ unknown_name pattern e scope
unfolding unknown_name
unknown_name-not pattern e scope =
    ap (λ f. f scope) (expr-not (Scope → Option (List ℕ)) (λ e. unknown_step e pattern) e)

pub unknown_name-bin : (pattern : List ℕ) (op : Op) (x y : Expr) (scope : Scope) → unknown_name pattern (Bin op x y) scope ≡ first_of_two (unknown_name pattern x scope) (unknown_name pattern y scope)
unfolding unknown_name
unknown_name-bin pattern op x y scope =
    ap (λ f. f scope) (expr-bin (Scope → Option (List ℕ)) (λ e. unknown_step e pattern) op x y)

pub unknown_name-cat : (pattern : List ℕ) (x y : Expr) (scope : Scope) → unknown_name pattern (Cat x y) scope ≡ first_of_two (unknown_name pattern x scope) (unknown_name pattern y scope)
unfolding unknown_name
unknown_name-cat pattern x y scope =
    ap (λ f. f scope) (expr-cat (Scope → Option (List ℕ)) (λ e. unknown_step e pattern) x y)

pub unknown_name-cut : (pattern : List ℕ) (e : Expr) (h k : ℕ) (scope : Scope) → unknown_name pattern (Cut e h k) scope ≡ unknown_name pattern e scope
unfolding unknown_name
unknown_name-cut pattern e h k scope =
    ap (λ f. f scope) (expr-cut (Scope → Option (List ℕ)) (λ e. unknown_step e pattern) e h k)

pub unknown_name-ext : (pattern : List ℕ) (e : Expr) (n : ℕ) (scope : Scope) → unknown_name pattern (Ext e n) scope ≡ unknown_name pattern e scope
unfolding unknown_name
unknown_name-ext pattern e n scope =
    ap (λ f. f scope) (expr-ext (Scope → Option (List ℕ)) (λ e. unknown_step e pattern) e n)

pub unknown_name-sext : (pattern : List ℕ) (e : Expr) (n : ℕ) (scope : Scope) → unknown_name pattern (Sext e n) scope ≡ unknown_name pattern e scope
unfolding unknown_name
unknown_name-sext pattern e n scope =
    ap (λ f. f scope) (expr-sext (Scope → Option (List ℕ)) (λ e. unknown_step e pattern) e n)

pub unknown_name-sel : (pattern : List ℕ) (c x y : Expr) (scope : Scope) → unknown_name pattern (Sel c x y) scope ≡ first_of_two (unknown_name pattern c scope) (first_of_two (unknown_name pattern x scope) (unknown_name pattern y scope))
unfolding unknown_name
unknown_name-sel pattern c x y scope =
    ap (λ f. f scope) (expr-sel (Scope → Option (List ℕ)) (λ e. unknown_step e pattern) c x y)

pub ruleset unknown_name_rules = (unknown_name-lit, unknown_name-name, unknown_name-pc, unknown_name-mode, unknown_name-rel, unknown_name-bound, unknown_name-load, unknown_name-not, unknown_name-bin, unknown_name-cat, unknown_name-cut, unknown_name-ext, unknown_name-sext, unknown_name-sel)
