-- What the readers of blocks of so many levels take for statements are the tokens of those statements.
use Rattle.std.proofs.Common.{◌≡◌, ℕ, zero, suc, ◌<◌, List, ◌∷◌, length, map, Option, None, Some, IfSome, refl, arith}
use Rattle.std.proofs.lemmas.List.{append_assoc, length-append}
use Rattle.pg_lang_token.specs.declared.tok.Tok.{Tok}
use Rattle.pg_lang_token.specs.declared.tok.Tok.TheVariants.{Sign}
use Rattle.pg_lang_token.specs.declared.tok.Sign.TheVariants.{CloseBrace}
use Rattle.pg_ast.specs.Levels.{most_expr_levels}
use Rattle.pg_ast.specs.declared.tree.Stmt.{Stmt}
use Rattle.pg_ast.specs.Tokens.{stmt_tokens, flat}
use Rattle.pg_ast.specs.Reading.{past_close, read_expr, read_stmt}
use Rattle.pg_ast.proofs.Exact.{read_at, then_read-holds}
use Rattle.pg_ast.proofs.ExprExact.{read_expr-exact}
use Rattle.pg_ast.proofs.StmtExact.{IsStmtFront, IsBlockFront, IsExactStmt, IsExactBlock, past_close-holds, stmt-exact}
use Rattle.pg_ast.proofs.StmtReads.{stmt-some}
use Rattle.pg_read.specs.Blocks.{stmts_next, stmts_at, body_at}

stmts_next-exact : (stmt : List Tok → Option (Stmt × List Tok)) (others : List Tok → Option (List Stmt × List Tok)) → IsExactStmt stmt → IsExactBlock others →
    (ts : List Tok) (found : Option (List Tok)) → past_close ts ≡ found → IfSome (stmts_next stmt others ts found) (IsBlockFront ts)
stmts_next-exact stmt others one more ts (Some rest) e = read_at (λ us. ts ≡ Sign CloseBrace ∷ us) (past_close ts) rest (past_close-holds ts) e
stmts_next-exact stmt others one more ts None e =
    then_read-holds (IsBlockFront ts) (stmt ts) _ (λ s t1 p1.
    then_read-holds (IsBlockFront ts) (others t1) _ (λ ss t2 p2.
    let first = read_at (IsStmtFront ts) (stmt ts) (s, t1) (one ts) p1 in
    let behind = read_at (IsBlockFront t1) (others t1) (ss, t2) (more t1) p2 in
    cc (append_assoc (stmt_tokens s) (flat (map stmt_tokens ss)) (Sign CloseBrace ∷ t2), first, behind)))

stmts_at-exact : (stmt : List Tok → Option (Stmt × List Tok)) → IsExactStmt stmt → (k : ℕ) → IsExactBlock (stmts_at stmt k)
unfolding stmts_at
stmts_at-exact stmt one zero ts = tt
stmts_at-exact stmt one (suc k) ts = stmts_next-exact stmt (stmts_at stmt k) one (stmts_at-exact stmt one k) ts (past_close ts) refl

-- what was read as a block are its tokens and its closing brace
pub body_at-exact : (n : ℕ) → IsExactBlock (body_at n)
unfolding body_at
body_at-exact zero ts = tt
body_at-exact (suc n) ts =
    stmts_at-exact (read_stmt (read_expr most_expr_levels) (body_at n)) (stmt-exact (read_expr most_expr_levels) (body_at n) (read_expr-exact most_expr_levels) (body_at-exact n)) (suc (length ts)) ts

-- what is left behind a statement is shorter
pub stmt-shorter : (n : ℕ) (ts us : List Tok) (s : Stmt) → read_stmt (read_expr most_expr_levels) (body_at n) ts ≡ Some (s, us) → length us < length ts
stmt-shorter n ts us s e =
    let front = read_at (IsStmtFront ts) (read_stmt (read_expr most_expr_levels) (body_at n) ts) (s, us) (stmt-exact (read_expr most_expr_levels) (body_at n) (read_expr-exact most_expr_levels) (body_at-exact n) ts) e in
    let some = stmt-some s in
    rw (front, length-append (stmt_tokens s) us) (omega arith)
