-- Statements inside a statement are fewer.
use Rattle.std.proofs.Common.{◌≡◌, ℕ, zero, suc, ◌<◌, ◌≤◌, List, [], ◌∷◌, length, map, get_or, Option, Some, ap, refl, sym, subst, ◌∙◌, arith}
use Rattle.pg_ast.specs.declared.tree.Expr.{Expr}
use Rattle.pg_ast.specs.declared.tree.Stmt.{Stmt}
use Rattle.pg_ast.specs.declared.tree.Stmt.TheVariants.{If}
use Rattle.pg_lang_valid.specs.Limits.{Tally, all_of, both, stmt_tally}
use Rattle.pg_lang_valid.proofs.CheckStmtEquations.{stmt_tally-if}

counted : (x : Stmt) (xs : List Stmt) → all_of (map stmt_tally (x ∷ xs)) ≡ both (stmt_tally x) (all_of (map stmt_tally xs))
unfolding all_of
counted x xs = refl

-- a statement counts no more than the list that it stands in
pub item_counts : (ss : List Stmt) (i : ℕ) (s d : Stmt) → i < length ss → s ≡ get_or ss i d → (stmt_tally s).statements ≤ (all_of (map stmt_tally ss)).statements
unfolding both
item_counts [] i s d h e = absurd (omega arith)
item_counts (x ∷ xs) zero s d h e = omega (arith, ap (λ y. (stmt_tally y).statements) e, ap (λ t. t.statements) (counted x xs))
item_counts (x ∷ xs) (suc i) s d h e = omega (arith, item_counts xs i s d (omega arith) e, ap (λ t. t.statements) (counted x xs))

-- the blocks of an if count less than it does
pub held-counts : (s : Stmt) (c : Expr) (held stmts : List Stmt) (other : Option (List Stmt)) → s ≡ If c held other → stmts ≡ held →
    (all_of (map stmt_tally stmts)).statements < (stmt_tally s).statements
unfolding both
held-counts s c held stmts other is same =
    let P : Tally → Type 0 = λ t. (all_of (map stmt_tally held)).statements < t.statements in
    let Q : Stmt → Type 0 = λ x. (all_of (map stmt_tally stmts)).statements < (stmt_tally x).statements in
    let R : List Stmt → Type 0 = λ xs. (all_of (map stmt_tally xs)).statements < (stmt_tally (If c held other)).statements in
    subst Q (sym is) (subst R (sym same) (subst P (sym (stmt_tally-if c held other)) (omega arith)))

pub other-counts : (s : Stmt) (c : Expr) (held block stmts : List Stmt) (other : Option (List Stmt)) → s ≡ If c held other → other ≡ Some block → stmts ≡ block →
    (all_of (map stmt_tally stmts)).statements < (stmt_tally s).statements
unfolding both
other-counts s c held block stmts other is there same =
    let P : Tally → Type 0 = λ t. (all_of (map stmt_tally block)).statements < t.statements in
    let Q : Stmt → Type 0 = λ x. (all_of (map stmt_tally stmts)).statements < (stmt_tally x).statements in
    let O : Option (List Stmt) → Type 0 = λ o. (all_of (map stmt_tally stmts)).statements < (stmt_tally (If c held o)).statements in
    let R : List Stmt → Type 0 = λ xs. (all_of (map stmt_tally xs)).statements < (stmt_tally (If c held (Some block))).statements in
    subst Q (sym is) (subst O (sym there) (subst R (sym same) (subst P (sym (stmt_tally-if c held (Some block))) (omega arith))))
