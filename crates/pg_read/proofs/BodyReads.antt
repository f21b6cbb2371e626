-- Reading the tokens of statements within limits on their levels gives the statements back.
use Rattle.std.proofs.Common.{◌≡◌, ℕ, zero, suc, ◌+◌, ◌≤◌, ◌<◌, List, [], ◌∷◌, ◌++◌, length, map, Option, Some, refl, arith}
use Rattle.std.proofs.lemmas.List.{append_assoc, length-append}
use Rattle.pg_lang_token.specs.declared.tok.Tok.{Tok}
use Rattle.pg_lang_token.specs.declared.tok.Tok.TheVariants.{Sign}
use Rattle.pg_lang_token.specs.declared.tok.Sign.TheVariants.{CloseBrace}
use Rattle.pg_ast.specs.declared.tree.Stmt.{Stmt}
use Rattle.pg_ast.specs.Tokens.{stmt_tokens, flat}
use Rattle.pg_ast.specs.Levels.{most_expr_levels, greatest, expr_levels, block_levels}
use Rattle.pg_ast.specs.Reading.{read_expr, read_stmt}
use Rattle.pg_ast.proofs.ExprReads.{read_expr-tokens}
use Rattle.pg_ast.proofs.StmtReads.{IsReadAt, ReadsStmt, ReadsBlock, else_free, open_front, stmt-read, stmt-some}
use Rattle.pg_ast.proofs.StmtEquations as equations
use Rattle.pg_read.specs.Blocks.{stmts_at, body_at}

module _ (stmt : List Tok → Option (Stmt × List Tok)) where
  stmts_at-end : (k : ℕ) (rest : List Tok) → stmts_at stmt (suc k) (Sign CloseBrace ∷ rest) ≡ Some ([], rest)
  unfolding stmts_at
  stmts_at-end k rest = refl

  stmts_at-next : (k : ℕ) (s : Stmt) (more : List Stmt) → ReadsStmt stmt s → ReadsBlock (stmts_at stmt k) more → ReadsBlock (stmts_at stmt (suc k)) (s ∷ more)
  unfolding stmts_at
  stmts_at-next k s more hs hmore rest =
      rw (append_assoc (stmt_tokens s) (flat (map stmt_tokens more)) (Sign CloseBrace ∷ rest), open_front s (flat (map stmt_tokens more) ++ (Sign CloseBrace ∷ rest)), hs (flat (map stmt_tokens more) ++ (Sign CloseBrace ∷ rest)) (else_free more rest), hmore rest) refl

-- within its limits a reader gives this statement
abbrev IsWithin : Stmt → Type 0
IsWithin = IsReadAt ℕ (λ n. read_expr most_expr_levels) body_at (λ n. most_expr_levels) (λ n. n) block_levels

-- there are no more statements than tokens
stmts-few : (stmts : List Stmt) → length stmts ≤ length (flat (map stmt_tokens stmts))
stmts-few [] = omega arith
stmts-few (s ∷ more) = omega (arith, length-append (stmt_tokens s) (flat (map stmt_tokens more)), stmt-some s, stmts-few more)

stmts-read : (stmts : List ((s : Stmt) × IsWithin s)) (n k : ℕ) → greatest (map expr_levels (map (λ p. p.0) stmts)) ≤ most_expr_levels → greatest (map block_levels (map (λ p. p.0) stmts)) ≤ n →
    length (map (λ p. p.0) stmts) < k → ReadsBlock (stmts_at (read_stmt (read_expr most_expr_levels) (body_at n)) k) (map (λ p. p.0) stmts)
stmts-read stmts n zero exprs blocks fuel = absurd (omega arith)
stmts-read [] n (suc k) exprs blocks fuel = stmts_at-end (read_stmt (read_expr most_expr_levels) (body_at n)) k
stmts-read (s ∷ more) n (suc k) exprs blocks fuel =
    stmts_at-next (read_stmt (read_expr most_expr_levels) (body_at n)) k s.0 (map (λ p. p.0) more) (s.1 n (omega arith) (omega arith)) (stmts-read more n k (omega arith) (omega arith) (omega arith))

block-read : (stmts : List ((s : Stmt) × IsWithin s)) (n : ℕ) → greatest (map expr_levels (map (λ p. p.0) stmts)) ≤ most_expr_levels → 1 + greatest (map block_levels (map (λ p. p.0) stmts)) ≤ n →
    ReadsBlock (body_at n) (map (λ p. p.0) stmts)
unfolding body_at
block-read stmts zero exprs blocks rest = absurd (omega arith)
block-read stmts (suc n) exprs blocks rest =
    stmts-read stmts n _ exprs (omega arith) (omega (arith, stmts-few (map (λ p. p.0) stmts), length-append (flat (map stmt_tokens (map (λ p. p.0) stmts))) (Sign CloseBrace ∷ rest))) rest

-- the tokens of a statement that keeps the limits give it back and leave what follows, unless that is an else
pub stmt-tokens : (s : Stmt) → IsWithin s
stmt-tokens =
    stmt-read ℕ (λ n. read_expr most_expr_levels) body_at (λ n. most_expr_levels) (λ n. n) block_levels (λ stmts. 1 + greatest (map block_levels stmts)) (λ n e deep. read_expr-tokens e most_expr_levels deep)
    (λ c held other. omega (arith, equations.block_levels-if c held other)) (λ c held other. omega (arith, equations.block_levels-if c held (Some other))) block-read

stmts-tokens : (stmts : List Stmt) (n k : ℕ) → greatest (map expr_levels stmts) ≤ most_expr_levels → greatest (map block_levels stmts) ≤ n → length stmts < k →
    ReadsBlock (stmts_at (read_stmt (read_expr most_expr_levels) (body_at n)) k) stmts
stmts-tokens stmts n zero exprs blocks fuel = absurd (omega arith)
stmts-tokens [] n (suc k) exprs blocks fuel = stmts_at-end (read_stmt (read_expr most_expr_levels) (body_at n)) k
stmts-tokens (s ∷ more) n (suc k) exprs blocks fuel =
    stmts_at-next (read_stmt (read_expr most_expr_levels) (body_at n)) k s more (stmt-tokens s n (omega arith) (omega arith)) (stmts-tokens more n k (omega arith) (omega arith) (omega arith))

-- the same of the statements of a block
pub body-tokens : (stmts : List Stmt) (n : ℕ) → greatest (map expr_levels stmts) ≤ most_expr_levels → 1 + greatest (map block_levels stmts) ≤ n → ReadsBlock (body_at n) stmts
unfolding body_at
body-tokens stmts zero exprs blocks rest = absurd (omega arith)
body-tokens stmts (suc n) exprs blocks rest =
    stmts-tokens stmts n _ exprs (omega arith) (omega (arith, stmts-few stmts, length-append (flat (map stmt_tokens stmts)) (Sign CloseBrace ∷ rest))) rest
