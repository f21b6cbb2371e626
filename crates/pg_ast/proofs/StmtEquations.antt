-- The equations of the folds over a statement, one for each of its forms.
use Rattle.std.proofs.Common.{◌≡◌, ℕ, ◌+◌, max, map, List, [], ◌∷◌, ◌++◌, Option, None, Some, codes, ap, sym, ◌∙◌}
use Rattle.std.specs.Option.{option_map}
use Rattle.pg_lang_token.specs.declared.tok.Tok.{Tok}
use Rattle.pg_lang_token.specs.declared.tok.Tok.TheVariants.{Word, Sign}
use Rattle.pg_lang_token.specs.declared.tok.Sign.TheVariants.{OpenBracket, CloseBracket, Semicolon, Equals}
use Rattle.pg_ast.specs.declared.name.Name.{Name as Names}
use Rattle.pg_ast.specs.declared.tree.Expr.{Expr}
use Rattle.pg_ast.specs.declared.tree.Stmt.{Stmt}
use Rattle.pg_ast.specs.declared.tree.Stmt.TheVariants.{Let, Store, Pc, Mode, Rel, Bound, Trap, If, rolls-Let, rolls-Store, rolls-Pc, rolls-Mode, rolls-Rel, rolls-Bound, rolls-Trap, rolls-If}
use Rattle.pg_ast.specs.declared.tree.Stmt.TheOpen as Open
use Rattle.pg_ast.specs.declared.tree.Stmt.TheFolds.{fold-roll-Stmt}
use Rattle.pg_ast.specs.ExprTokens.{expr_tokens}
use Rattle.pg_ast.specs.Tokens.{stmt_tokens, stmt_tokens_step, assign_tokens, block_tokens, else_tokens}
use Rattle.pg_ast.specs.Levels.{depth_of, greatest, greatest_of, expr_levels, expr_level_step, block_levels, block_level_step}

pub stmt_tokens-let : (n : Names) (e : Expr) → stmt_tokens (Let n e) ≡ Word (codes "let") ∷ Word n.bytes ∷ Sign Equals ∷ expr_tokens e ++ Sign Semicolon ∷ []
unfolding stmt_tokens
stmt_tokens-let n e = ap stmt_tokens (sym (rolls-Let n e)) ∙ fold-roll-Stmt (List Tok) stmt_tokens_step (Open.Let n e)

pub stmt_tokens-store : (a e : Expr) → stmt_tokens (Store a e) ≡ Word (codes "mem") ∷ Sign OpenBracket ∷ expr_tokens a ++ Sign CloseBracket ∷ Sign Equals ∷ expr_tokens e ++ Sign Semicolon ∷ []
unfolding stmt_tokens
stmt_tokens-store a e = ap stmt_tokens (sym (rolls-Store a e)) ∙ fold-roll-Stmt (List Tok) stmt_tokens_step (Open.Store a e)

pub stmt_tokens-pc : (e : Expr) → stmt_tokens (Pc e) ≡ assign_tokens (codes "pc") e
unfolding stmt_tokens
stmt_tokens-pc e = ap stmt_tokens (sym (rolls-Pc e)) ∙ fold-roll-Stmt (List Tok) stmt_tokens_step (Open.Pc e)

pub stmt_tokens-mode : (e : Expr) → stmt_tokens (Mode e) ≡ assign_tokens (codes "mode") e
unfolding stmt_tokens
stmt_tokens-mode e = ap stmt_tokens (sym (rolls-Mode e)) ∙ fold-roll-Stmt (List Tok) stmt_tokens_step (Open.Mode e)

pub stmt_tokens-rel : (e : Expr) → stmt_tokens (Rel e) ≡ assign_tokens (codes "rel") e
unfolding stmt_tokens
stmt_tokens-rel e = ap stmt_tokens (sym (rolls-Rel e)) ∙ fold-roll-Stmt (List Tok) stmt_tokens_step (Open.Rel e)

pub stmt_tokens-bound : (e : Expr) → stmt_tokens (Bound e) ≡ assign_tokens (codes "bound") e
unfolding stmt_tokens
stmt_tokens-bound e = ap stmt_tokens (sym (rolls-Bound e)) ∙ fold-roll-Stmt (List Tok) stmt_tokens_step (Open.Bound e)

pub stmt_tokens-trap : stmt_tokens Trap ≡ Word (codes "trap") ∷ Sign Semicolon ∷ []
unfolding stmt_tokens
stmt_tokens-trap = ap stmt_tokens (sym rolls-Trap) ∙ fold-roll-Stmt (List Tok) stmt_tokens_step Open.Trap

pub stmt_tokens-if : (c : Expr) (held : List Stmt) (other : Option (List Stmt)) → stmt_tokens (If c held other) ≡ Word (codes "if") ∷ expr_tokens c ++ block_tokens (map stmt_tokens held) ++ else_tokens (option_map (map stmt_tokens) other)
unfolding stmt_tokens
stmt_tokens-if c held None = ap stmt_tokens (sym (rolls-If c held None)) ∙ fold-roll-Stmt (List Tok) stmt_tokens_step (Open.If c held None)
stmt_tokens-if c held (Some stmts) = ap stmt_tokens (sym (rolls-If c held (Some stmts))) ∙ fold-roll-Stmt (List Tok) stmt_tokens_step (Open.If c held (Some stmts))

pub ruleset stmt_tokens_rules = (stmt_tokens-let, stmt_tokens-store, stmt_tokens-pc, stmt_tokens-mode, stmt_tokens-rel, stmt_tokens-bound, stmt_tokens-trap, stmt_tokens-if)

pub expr_levels-let : (n : Names) (e : Expr) → expr_levels (Let n e) ≡ depth_of e
unfolding expr_levels
expr_levels-let n e = ap expr_levels (sym (rolls-Let n e)) ∙ fold-roll-Stmt ℕ expr_level_step (Open.Let n e)

pub expr_levels-store : (a e : Expr) → expr_levels (Store a e) ≡ max (depth_of a) (depth_of e)
unfolding expr_levels
expr_levels-store a e = ap expr_levels (sym (rolls-Store a e)) ∙ fold-roll-Stmt ℕ expr_level_step (Open.Store a e)

pub expr_levels-pc : (e : Expr) → expr_levels (Pc e) ≡ depth_of e
unfolding expr_levels
expr_levels-pc e = ap expr_levels (sym (rolls-Pc e)) ∙ fold-roll-Stmt ℕ expr_level_step (Open.Pc e)

pub expr_levels-mode : (e : Expr) → expr_levels (Mode e) ≡ depth_of e
unfolding expr_levels
expr_levels-mode e = ap expr_levels (sym (rolls-Mode e)) ∙ fold-roll-Stmt ℕ expr_level_step (Open.Mode e)

pub expr_levels-rel : (e : Expr) → expr_levels (Rel e) ≡ depth_of e
unfolding expr_levels
expr_levels-rel e = ap expr_levels (sym (rolls-Rel e)) ∙ fold-roll-Stmt ℕ expr_level_step (Open.Rel e)

pub expr_levels-bound : (e : Expr) → expr_levels (Bound e) ≡ depth_of e
unfolding expr_levels
expr_levels-bound e = ap expr_levels (sym (rolls-Bound e)) ∙ fold-roll-Stmt ℕ expr_level_step (Open.Bound e)

pub expr_levels-trap : expr_levels Trap ≡ 0
unfolding expr_levels
expr_levels-trap = ap expr_levels (sym rolls-Trap) ∙ fold-roll-Stmt ℕ expr_level_step Open.Trap

pub expr_levels-if : (c : Expr) (held : List Stmt) (other : Option (List Stmt)) → expr_levels (If c held other) ≡ max (depth_of c) (max (greatest (map expr_levels held)) (greatest_of (option_map (map expr_levels) other)))
unfolding expr_levels
expr_levels-if c held None = ap expr_levels (sym (rolls-If c held None)) ∙ fold-roll-Stmt ℕ expr_level_step (Open.If c held None)
expr_levels-if c held (Some stmts) = ap expr_levels (sym (rolls-If c held (Some stmts))) ∙ fold-roll-Stmt ℕ expr_level_step (Open.If c held (Some stmts))

pub ruleset expr_levels_rules = (expr_levels-let, expr_levels-store, expr_levels-pc, expr_levels-mode, expr_levels-rel, expr_levels-bound, expr_levels-trap, expr_levels-if)

pub block_levels-let : (n : Names) (e : Expr) → block_levels (Let n e) ≡ 0
unfolding block_levels
block_levels-let n e = ap block_levels (sym (rolls-Let n e)) ∙ fold-roll-Stmt ℕ block_level_step (Open.Let n e)

pub block_levels-store : (a e : Expr) → block_levels (Store a e) ≡ 0
unfolding block_levels
block_levels-store a e = ap block_levels (sym (rolls-Store a e)) ∙ fold-roll-Stmt ℕ block_level_step (Open.Store a e)

pub block_levels-pc : (e : Expr) → block_levels (Pc e) ≡ 0
unfolding block_levels
block_levels-pc e = ap block_levels (sym (rolls-Pc e)) ∙ fold-roll-Stmt ℕ block_level_step (Open.Pc e)

pub block_levels-mode : (e : Expr) → block_levels (Mode e) ≡ 0
unfolding block_levels
block_levels-mode e = ap block_levels (sym (rolls-Mode e)) ∙ fold-roll-Stmt ℕ block_level_step (Open.Mode e)

pub block_levels-rel : (e : Expr) → block_levels (Rel e) ≡ 0
unfolding block_levels
block_levels-rel e = ap block_levels (sym (rolls-Rel e)) ∙ fold-roll-Stmt ℕ block_level_step (Open.Rel e)

pub block_levels-bound : (e : Expr) → block_levels (Bound e) ≡ 0
unfolding block_levels
block_levels-bound e = ap block_levels (sym (rolls-Bound e)) ∙ fold-roll-Stmt ℕ block_level_step (Open.Bound e)

pub block_levels-trap : block_levels Trap ≡ 0
unfolding block_levels
block_levels-trap = ap block_levels (sym rolls-Trap) ∙ fold-roll-Stmt ℕ block_level_step Open.Trap

pub block_levels-if : (c : Expr) (held : List Stmt) (other : Option (List Stmt)) → block_levels (If c held other) ≡ 1 + max (greatest (map block_levels held)) (greatest_of (option_map (map block_levels) other))
unfolding block_levels
block_levels-if c held None = ap block_levels (sym (rolls-If c held None)) ∙ fold-roll-Stmt ℕ block_level_step (Open.If c held None)
block_levels-if c held (Some stmts) = ap block_levels (sym (rolls-If c held (Some stmts))) ∙ fold-roll-Stmt ℕ block_level_step (Open.If c held (Some stmts))

pub ruleset block_levels_rules = (block_levels-let, block_levels-store, block_levels-pc, block_levels-mode, block_levels-rel, block_levels-bound, block_levels-trap, block_levels-if)
