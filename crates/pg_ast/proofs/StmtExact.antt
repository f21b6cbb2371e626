-- What a reader takes for statements are the tokens of those statements.
use Rattle.std.proofs.Common.{◌≡◌, ℕ, zero, suc, ◌==◌, List, [], ◌∷◌, ◌++◌, map, Option, None, Some, IfSome, bytes_eq, codes, ap, refl}
use Rattle.std.proofs.lemmas.List.{append_assoc}
use Rattle.pg_lang_token.specs.declared.tok.Tok.{Tok}
use Rattle.pg_lang_token.specs.declared.tok.Tok.TheVariants.{Word, Number, Pattern, Sign}
use Rattle.pg_lang_token.specs.declared.tok.Sign.TheVariants.{OpenBrace, CloseBrace, OpenBracket, CloseBracket, Semicolon, Equals}
use Rattle.pg_ast.specs.declared.tree.Expr.{Expr}
use Rattle.pg_ast.specs.declared.tree.Stmt.{Stmt}
use Rattle.pg_ast.specs.ExprTokens.{expr_tokens}
use Rattle.pg_ast.specs.Tokens.{stmt_tokens, flat}
use Rattle.pg_ast.specs.Reading.{past_close, past_else, sign_number, read_else, read_stmt_word, read_stmt, read_first, read_block}
use Rattle.pg_ast.proofs.Exact.{same_word, same_sign, read_at, cond-holds, then_read-holds, past_sign-holds, past_name-holds}
use Rattle.pg_ast.proofs.ExprExact.{IsExprFront, IsExactExpr}
use Rattle.pg_ast.proofs.StmtFronts as fronts

-- the tokens are those of the statement, and then the rest
abbrev pub IsStmtFront : List Tok → Stmt × List Tok → Type 0
IsStmtFront ts p = ts ≡ stmt_tokens p.0 ++ p.1

-- the tokens are those of the statements, a closing brace, and then the rest
abbrev pub IsBlockFront : List Tok → List Stmt × List Tok → Type 0
IsBlockFront ts p = ts ≡ flat (map stmt_tokens p.0) ++ (Sign CloseBrace ∷ p.1)

-- whatever this reader reads, these were its tokens
abbrev pub IsExactStmt : (List Tok → Option (Stmt × List Tok)) → Type 0
IsExactStmt read = (ts : List Tok) → IfSome (read ts) (IsStmtFront ts)

-- the same of a reader of blocks
abbrev pub IsExactBlock : (List Tok → Option (List Stmt × List Tok)) → Type 0
IsExactBlock read = (ts : List Tok) → IfSome (read ts) (IsBlockFront ts)

-- where a closing brace was passed, it stood in front
pub past_close-holds : (ts : List Tok) → IfSome (past_close ts) (λ rest. ts ≡ Sign CloseBrace ∷ rest)
past_close-holds [] = tt
past_close-holds (Word w ∷ ts) = tt
past_close-holds (Number n ∷ ts) = tt
past_close-holds (Pattern w ∷ ts) = tt
past_close-holds (Sign s ∷ ts) = cond-holds (λ rest. Sign s ∷ ts ≡ Sign CloseBrace ∷ rest) (sign_number s == sign_number CloseBrace) (Some ts) None (λ e. ap (λ u. Sign u ∷ ts) (same_sign s CloseBrace e)) (λ e. tt)

past_else-holds : (ts : List Tok) → IfSome (past_else ts) (λ rest. ts ≡ Word (codes "else") ∷ rest)
past_else-holds [] = tt
past_else-holds (Word w ∷ ts) = cond-holds (λ rest. Word w ∷ ts ≡ Word (codes "else") ∷ rest) (bytes_eq w (codes "else")) (Some ts) None (λ e. ap (λ u. Word u ∷ ts) (same_word w (codes "else") e)) (λ e. tt)
past_else-holds (Number n ∷ ts) = tt
past_else-holds (Pattern w ∷ ts) = tt
past_else-holds (Sign s ∷ ts) = tt

-- one level, where x reads expressions and b reads the blocks inside
module _ (x : List Tok → Option (Expr × List Tok)) (b : List Tok → Option (List Stmt × List Tok)) (exact : IsExactExpr x) (block : IsExactBlock b) where
  expr-part : (us : List Tok) (e : Expr) (vs : List Tok) → x us ≡ Some (e, vs) → us ≡ expr_tokens e ++ vs
  expr-part us e vs q = read_at (IsExprFront us) (x us) (e, vs) (exact us) q

  block-part : (us : List Tok) (stmts : List Stmt) (vs : List Tok) → b us ≡ Some (stmts, vs) → us ≡ flat (map stmt_tokens stmts) ++ (Sign CloseBrace ∷ vs)
  block-part us stmts vs q = read_at (IsBlockFront us) (b us) (stmts, vs) (block us) q

  else-exact : (all : List Tok) (c : Expr) (held : List Stmt) (ts : List Tok) (found : Option (List Tok)) → past_else ts ≡ found →
      all ≡ Word (codes "if") ∷ (expr_tokens c ++ (Sign OpenBrace ∷ (flat (map stmt_tokens held) ++ (Sign CloseBrace ∷ ts)))) →
      IfSome (read_else b c held ts found) (IsStmtFront all)
  else-exact all c held ts None e before = cc (fronts.stmt_front-if c held ts)
  else-exact all c held ts (Some us) e before =
      past_sign-holds (IsStmtFront all) OpenBrace us _ (λ t1 p1.
      then_read-holds (IsStmtFront all) (b t1) _ (λ other t2 p2.
      cc (fronts.stmt_front-if_else c held other t2, read_at (λ rest. ts ≡ Word (codes "else") ∷ rest) (past_else ts) us (past_else-holds ts) e, p1, block-part t1 other t2 p2)))

  word-exact : (w : List ℕ) (ts : List Tok) → IfSome (read_stmt_word x b w ts) (IsStmtFront (Word w ∷ ts))
  unfolding read_stmt_word
  word-exact w ts =
      let all : Stmt × List Tok → Type 0 = IsStmtFront (Word w ∷ ts) in
      cond-holds all (bytes_eq w (codes "let")) _ _ (λ same.
      past_name-holds all ts _ (λ n t1 p1.
      past_sign-holds all Equals t1 _ (λ t2 p2.
      then_read-holds all (x t2) _ (λ e t3 p3.
      past_sign-holds all Semicolon t3 _ (λ t4 p4.
      cc (fronts.stmt_front-let n e t4, same_word w (codes "let") same, p1, p2, expr-part t2 e t3 p3, p4)))))) (λ other.
      cond-holds all (bytes_eq w (codes "mem")) _ _ (λ same.
      past_sign-holds all OpenBracket ts _ (λ t1 p1.
      then_read-holds all (x t1) _ (λ a t2 p2.
      past_sign-holds all CloseBracket t2 _ (λ t3 p3.
      past_sign-holds all Equals t3 _ (λ t4 p4.
      then_read-holds all (x t4) _ (λ e t5 p5.
      past_sign-holds all Semicolon t5 _ (λ t6 p6.
      cc (fronts.stmt_front-store a e t6, same_word w (codes "mem") same, p1, expr-part t1 a t2 p2, p3, p4, expr-part t4 e t5 p5, p6)))))))) (λ other.
      cond-holds all (bytes_eq w (codes "pc")) _ _ (λ same.
      past_sign-holds all Equals ts _ (λ t1 p1.
      then_read-holds all (x t1) _ (λ e t2 p2.
      past_sign-holds all Semicolon t2 _ (λ t3 p3.
      cc (fronts.stmt_front-pc e t3, same_word w (codes "pc") same, p1, expr-part t1 e t2 p2, p3))))) (λ other.
      cond-holds all (bytes_eq w (codes "mode")) _ _ (λ same.
      past_sign-holds all Equals ts _ (λ t1 p1.
      then_read-holds all (x t1) _ (λ e t2 p2.
      past_sign-holds all Semicolon t2 _ (λ t3 p3.
      cc (fronts.stmt_front-mode e t3, same_word w (codes "mode") same, p1, expr-part t1 e t2 p2, p3))))) (λ other.
      cond-holds all (bytes_eq w (codes "rel")) _ _ (λ same.
      past_sign-holds all Equals ts _ (λ t1 p1.
      then_read-holds all (x t1) _ (λ e t2 p2.
      past_sign-holds all Semicolon t2 _ (λ t3 p3.
      cc (fronts.stmt_front-rel e t3, same_word w (codes "rel") same, p1, expr-part t1 e t2 p2, p3))))) (λ other.
      cond-holds all (bytes_eq w (codes "bound")) _ _ (λ same.
      past_sign-holds all Equals ts _ (λ t1 p1.
      then_read-holds all (x t1) _ (λ e t2 p2.
      past_sign-holds all Semicolon t2 _ (λ t3 p3.
      cc (fronts.stmt_front-bound e t3, same_word w (codes "bound") same, p1, expr-part t1 e t2 p2, p3))))) (λ other.
      cond-holds all (bytes_eq w (codes "trap")) _ _ (λ same.
      past_sign-holds all Semicolon ts _ (λ t1 p1.
      cc (fronts.stmt_front-trap t1, same_word w (codes "trap") same, p1))) (λ other.
      cond-holds all (bytes_eq w (codes "if")) _ _ (λ same.
      then_read-holds all (x ts) _ (λ c t1 p1.
      past_sign-holds all OpenBrace t1 _ (λ t2 p2.
      then_read-holds all (b t2) _ (λ held t3 p3.
      else-exact (Word w ∷ ts) c held t3 (past_else t3) refl (cc (same_word w (codes "if") same, expr-part ts c t1 p1, p2, block-part t2 held t3 p3)))))) (λ other.
      tt))))))))

  -- what was read as a statement are its tokens
  pub stmt-exact : IsExactStmt (read_stmt x b)
  unfolding read_stmt
  stmt-exact [] = tt
  stmt-exact (Word w ∷ ts) = word-exact w ts
  stmt-exact (Number n ∷ ts) = tt
  stmt-exact (Pattern w ∷ ts) = tt
  stmt-exact (Sign s ∷ ts) = tt

  first-exact : (ts : List Tok) (found : Option (List Tok)) → past_close ts ≡ found → IfSome (read_first x b ts found) (IsBlockFront ts)
  unfolding read_first
  first-exact ts (Some rest) e = read_at (λ us. ts ≡ Sign CloseBrace ∷ us) (past_close ts) rest (past_close-holds ts) e
  first-exact ts None e =
      then_read-holds (IsBlockFront ts) (read_stmt x b ts) _ (λ s t1 p1.
      then_read-holds (IsBlockFront ts) (b t1) _ (λ more t2 p2.
      cc (append_assoc (stmt_tokens s) (flat (map stmt_tokens more)) (Sign CloseBrace ∷ t2), read_at (IsStmtFront ts) (read_stmt x b ts) (s, t1) (stmt-exact ts) p1, block-part t1 more t2 p2)))

-- what was read as a block are its tokens and its closing brace
pub read_block-exact : (x : List Tok → Option (Expr × List Tok)) → IsExactExpr x → (k : ℕ) → IsExactBlock (read_block x k)
unfolding read_block
read_block-exact x exact zero ts = tt
read_block-exact x exact (suc k) ts = first-exact x (read_block x k) exact (read_block-exact x exact k) ts (past_close ts) refl
