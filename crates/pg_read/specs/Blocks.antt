-- Blocks of so many levels, and the expressions in them of as many as they may have.
use Rattle.std.specs.Prelude.{ℕ, zero, suc, List, [], ◌∷◌, length, Option, None, Some}
use Rattle.pg_lang_token.specs.declared.tok.Tok.{Tok}
use Rattle.pg_ast.specs.Levels.{most_expr_levels}
use Rattle.pg_ast.specs.declared.tree.Stmt.{Stmt}
use Rattle.pg_ast.specs.Reading.{then_read, past_close, read_expr, read_stmt}

-- none where the closing brace comes first, and else a statement and those behind it
abbrev pub stmts_next : (stmt : List Tok → Option (Stmt × List Tok)) → (others : List Tok → Option (List Stmt × List Tok)) → List Tok → Option (List Tok) → Option (List Stmt × List Tok)
stmts_next stmt others ts (Some rest) = Some ([], rest)
stmts_next stmt others ts None = then_read (stmt ts) (λ s us. then_read (others us) (λ more rest. Some (s ∷ more, rest)))

-- the statements up to the closing brace, fewer than so many, and past it
unfoldable pub stmts_at : (stmt : List Tok → Option (Stmt × List Tok)) → ℕ → List Tok → Option (List Stmt × List Tok)
stmts_at stmt zero ts = None
stmts_at stmt (suc k) ts = stmts_next stmt (stmts_at stmt k) ts (past_close ts)

-- the statements of a block of at most so many levels, up to its closing brace and past it: there are no more of them than
-- tokens
unfoldable pub body_at : ℕ → List Tok → Option (List Stmt × List Tok)
body_at zero ts = None
body_at (suc n) ts = stmts_at (read_stmt (read_expr most_expr_levels) (body_at n)) (suc (length ts)) ts
