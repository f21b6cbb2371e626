-- Reading the tokens of statements gives the statements back.
use Rattle.std.proofs.Common.{◌≡◌, ℕ, zero, suc, ◌+◌, ◌≤◌, List, [], ◌∷◌, ◌++◌, length, map, Option, None, Some, sym, subst, refl, arith}
use Rattle.std.proofs.lemmas.List.{append_assoc, length-append}
use Rattle.pg_lang_token.specs.declared.tok.Tok.{Tok}
use Rattle.pg_lang_token.specs.declared.tok.Tok.TheVariants.{Sign}
use Rattle.pg_lang_token.specs.declared.tok.Sign.TheVariants.{CloseBrace}
use Rattle.pg_ast.specs.declared.name.Name.{Name as Names}
use Rattle.pg_ast.specs.declared.tree.Expr.{Expr}
use Rattle.pg_ast.specs.declared.tree.Stmt.{Stmt}
use Rattle.pg_ast.specs.declared.tree.Stmt.TheVariants.{Let, Store, Pc, Mode, Rel, Bound, Trap, If, rolls-Let, rolls-Store, rolls-Pc, rolls-Mode, rolls-Rel, rolls-Bound, rolls-Trap, rolls-If}
use Rattle.pg_ast.specs.declared.tree.Stmt.TheOpen as Open
use Rattle.pg_ast.specs.declared.tree.Stmt.TheFolds.{ind-Stmt, map-Stmt}
use Rattle.pg_ast.specs.declared.tree.Stmt.TheViews.{roll-Stmt}
use Rattle.pg_ast.specs.Tokens.{stmt_tokens, flat}
use Rattle.pg_ast.specs.Levels.{greatest, depth_of, expr_levels}
use Rattle.pg_ast.specs.Reading.{past_close, past_else, read_expr, read_stmt_word, read_stmt, read_first, read_block}
use Rattle.pg_ast.proofs.ExprReads.{Reads, name_of-bytes, read_expr-tokens}
use Rattle.pg_ast.proofs.StmtEquations as equations
use Rattle.pg_ast.proofs.StmtFronts as fronts

-- a reader gives this statement for its tokens, whatever but an else follows them
abbrev pub ReadsStmt : (List Tok → Option (Stmt × List Tok)) → Stmt → Type 0
ReadsStmt read s = (rest : List Tok) → past_else rest ≡ None → read (stmt_tokens s ++ rest) ≡ Some (s, rest)

-- a reader gives these statements for their tokens and a closing brace, whatever follows
abbrev pub ReadsBlock : (List Tok → Option (List Stmt × List Tok)) → List Stmt → Type 0
ReadsBlock read stmts = (rest : List Tok) → read (flat (map stmt_tokens stmts) ++ (Sign CloseBrace ∷ rest)) ≡ Some (stmts, rest)

-- behind a statement of a block comes no else
pub else_free : (more : List Stmt) (rest : List Tok) → past_else (flat (map stmt_tokens more) ++ (Sign CloseBrace ∷ rest)) ≡ None
else_free [] rest = refl
else_free (s ∷ more) rest = let begun = fronts.stmt_begins s in rw (begun.2) (simp (begun.3))

-- a block does not end where a statement begins
pub open_front : (s : Stmt) (rest : List Tok) → past_close (stmt_tokens s ++ rest) ≡ None
open_front s rest = let begun = fronts.stmt_begins s in rw (begun.2) refl

-- a statement has tokens
pub stmt-some : (s : Stmt) → 1 ≤ length (stmt_tokens s)
stmt-some s = let begun = fronts.stmt_begins s in rw (begun.2) (omega arith)

-- one level, where x reads expressions and b reads the blocks inside
module _ (x : List Tok → Option (Expr × List Tok)) (b : List Tok → Option (List Stmt × List Tok)) where
  level-let : (n : Names) (e : Expr) → Reads x e → ReadsStmt (read_stmt x b) (Let n e)
  unfolding read_stmt read_stmt_word
  level-let n e he rest free = rw (fronts.stmt_front-let n e rest) (simp (name_of-bytes, he))

  level-store : (a e : Expr) → Reads x a → Reads x e → ReadsStmt (read_stmt x b) (Store a e)
  unfolding read_stmt read_stmt_word
  level-store a e ha he rest free = rw (fronts.stmt_front-store a e rest) (simp (ha, he))

  level-pc : (e : Expr) → Reads x e → ReadsStmt (read_stmt x b) (Pc e)
  unfolding read_stmt read_stmt_word
  level-pc e he rest free = rw (fronts.stmt_front-pc e rest) (simp he)

  level-mode : (e : Expr) → Reads x e → ReadsStmt (read_stmt x b) (Mode e)
  unfolding read_stmt read_stmt_word
  level-mode e he rest free = rw (fronts.stmt_front-mode e rest) (simp he)

  level-rel : (e : Expr) → Reads x e → ReadsStmt (read_stmt x b) (Rel e)
  unfolding read_stmt read_stmt_word
  level-rel e he rest free = rw (fronts.stmt_front-rel e rest) (simp he)

  level-bound : (e : Expr) → Reads x e → ReadsStmt (read_stmt x b) (Bound e)
  unfolding read_stmt read_stmt_word
  level-bound e he rest free = rw (fronts.stmt_front-bound e rest) (simp he)

  level-trap : ReadsStmt (read_stmt x b) Trap
  unfolding read_stmt read_stmt_word
  level-trap rest free = rw (fronts.stmt_front-trap rest) refl

  level-if : (c : Expr) (held : List Stmt) → Reads x c → ReadsBlock b held → ReadsStmt (read_stmt x b) (If c held None)
  unfolding read_stmt read_stmt_word
  level-if c held hc hheld rest free = rw (fronts.stmt_front-if c held rest) (simp (hc, hheld, free))

  level-if_else : (c : Expr) (held other : List Stmt) → Reads x c → ReadsBlock b held → ReadsBlock b other → ReadsStmt (read_stmt x b) (If c held (Some other))
  unfolding read_stmt read_stmt_word
  level-if_else c held other hc hheld hother rest free = rw (fronts.stmt_front-if_else c held other rest) (simp (hc, hheld, hother))

  first-end : (rest : List Tok) → read_first x b (Sign CloseBrace ∷ rest) (past_close (Sign CloseBrace ∷ rest)) ≡ Some ([], rest)
  unfolding read_first
  first-end rest = refl

  first-next : (s : Stmt) (more : List Stmt) → ReadsStmt (read_stmt x b) s → ReadsBlock b more → (rest : List Tok) →
      read_first x b (flat (map stmt_tokens (s ∷ more)) ++ (Sign CloseBrace ∷ rest)) (past_close (flat (map stmt_tokens (s ∷ more)) ++ (Sign CloseBrace ∷ rest))) ≡ Some (s ∷ more, rest)
  unfolding read_first
  first-next s more hs hmore rest =
      rw (append_assoc (stmt_tokens s) (flat (map stmt_tokens more)) (Sign CloseBrace ∷ rest), open_front s (flat (map stmt_tokens more) ++ (Sign CloseBrace ∷ rest)), hs (flat (map stmt_tokens more) ++ (Sign CloseBrace ∷ rest)) (else_free more rest), hmore rest) refl

-- at each i of a family, where x i reads expressions and b i blocks: a statement is read that has so many levels of expressions, and this size, at most
abbrev pub IsReadAt : (I : Type 0) (x : I → List Tok → Option (Expr × List Tok)) (b : I → List Tok → Option (List Stmt × List Tok)) (levels room : I → ℕ) (size : Stmt → ℕ) → Stmt → Type 0
IsReadAt I x b levels room size s = (i : I) → expr_levels s ≤ levels i → size s ≤ room i → ReadsStmt (read_stmt (x i) (b i)) s

-- the same of the statements of a block, whose size is no greater than that of the statement that it stands in
module _ (I : Type 0) (x : I → List Tok → Option (Expr × List Tok)) (b : I → List Tok → Option (List Stmt × List Tok)) (levels room : I → ℕ) (size : Stmt → ℕ) (block_size : List Stmt → ℕ)
    (exprs : (i : I) (e : Expr) → depth_of e ≤ levels i → Reads (x i) e)
    (held_size : (c : Expr) (held : List Stmt) (other : Option (List Stmt)) → block_size held ≤ size (If c held other))
    (else_size : (c : Expr) (held other : List Stmt) → block_size other ≤ size (If c held (Some other)))
    (block : (stmts : List ((s : Stmt) × IsReadAt I x b levels room size s)) (i : I) → greatest (map expr_levels (map (λ p. p.0) stmts)) ≤ levels i → block_size (map (λ p. p.0) stmts) ≤ room i → ReadsBlock (b i) (map (λ p. p.0) stmts)) where
  abbrev IsRead : Stmt → Type 0
  IsRead = IsReadAt I x b levels room size

  layer : (y : Open.Stmt-F ((s : Stmt) × IsRead s)) → IsRead (roll-Stmt (map-Stmt ((s : Stmt) × IsRead s) Stmt (λ p. p.0) y))
  layer (Open.Let m e) = subst IsRead (sym (rolls-Let m e)) (λ i deep fits.
      level-let (x i) (b i) m e (exprs i e (omega (arith, equations.expr_levels-let m e))))
  layer (Open.Store a e) = subst IsRead (sym (rolls-Store a e)) (λ i deep fits.
      level-store (x i) (b i) a e (exprs i a (omega (arith, equations.expr_levels-store a e))) (exprs i e (omega (arith, equations.expr_levels-store a e))))
  layer (Open.Pc e) = subst IsRead (sym (rolls-Pc e)) (λ i deep fits.
      level-pc (x i) (b i) e (exprs i e (omega (arith, equations.expr_levels-pc e))))
  layer (Open.Mode e) = subst IsRead (sym (rolls-Mode e)) (λ i deep fits.
      level-mode (x i) (b i) e (exprs i e (omega (arith, equations.expr_levels-mode e))))
  layer (Open.Rel e) = subst IsRead (sym (rolls-Rel e)) (λ i deep fits.
      level-rel (x i) (b i) e (exprs i e (omega (arith, equations.expr_levels-rel e))))
  layer (Open.Bound e) = subst IsRead (sym (rolls-Bound e)) (λ i deep fits.
      level-bound (x i) (b i) e (exprs i e (omega (arith, equations.expr_levels-bound e))))
  layer Open.Trap = subst IsRead (sym rolls-Trap) (λ i deep fits. level-trap (x i) (b i))
  layer (Open.If c held None) = subst IsRead (sym (rolls-If c (map (λ p. p.0) held) None)) (λ i deep fits.
      let within = equations.expr_levels-if c (map (λ p. p.0) held) None in
      level-if (x i) (b i) c (map (λ p. p.0) held)
      (exprs i c (omega (arith, within)))
      (block held i (omega (arith, within)) (omega (arith, held_size c (map (λ p. p.0) held) None))))
  layer (Open.If c held (Some other)) = subst IsRead (sym (rolls-If c (map (λ p. p.0) held) (Some (map (λ p. p.0) other)))) (λ i deep fits.
      let within = equations.expr_levels-if c (map (λ p. p.0) held) (Some (map (λ p. p.0) other)) in
      level-if_else (x i) (b i) c (map (λ p. p.0) held) (map (λ p. p.0) other)
      (exprs i c (omega (arith, within)))
      (block held i (omega (arith, within)) (omega (arith, held_size c (map (λ p. p.0) held) (Some (map (λ p. p.0) other)))))
      (block other i (omega (arith, within)) (omega (arith, else_size c (map (λ p. p.0) held) (map (λ p. p.0) other)))))

  -- the tokens of each statement that keeps the bounds give it back and leave what follows, unless that is an else
  pub stmt-read : (s : Stmt) → IsReadAt I x b levels room size s
  stmt-read = ind-Stmt IsRead (λ y z is. subst (λ s. IsRead (roll-Stmt s)) is (layer z))

-- with fuel for its levels and its tokens a reader gives this statement
abbrev IsFueled : Stmt → Type 0
IsFueled = IsReadAt (ℕ × ℕ) (λ i. read_expr i.0) (λ i. read_block (read_expr i.0) i.1) (λ i. i.0) (λ i. i.1) (λ s. length (stmt_tokens s))

block-reads : (stmts : List ((s : Stmt) × IsFueled s)) (n k : ℕ) → greatest (map expr_levels (map (λ p. p.0) stmts)) ≤ n → length (flat (map stmt_tokens (map (λ p. p.0) stmts))) + 1 ≤ k →
    ReadsBlock (read_block (read_expr n) k) (map (λ p. p.0) stmts)
unfolding read_block
block-reads [] n zero levels fuel rest = absurd (omega arith)
block-reads [] n (suc k) levels fuel rest = first-end (read_expr n) (read_block (read_expr n) k) rest
block-reads (s ∷ more) n zero levels fuel rest = absurd (omega arith)
block-reads (s ∷ more) n (suc k) levels fuel rest =
    let total = length-append (stmt_tokens s.0) (flat (map stmt_tokens (map (λ p. p.0) more))) in
    let some = stmt-some s.0 in
    first-next (read_expr n) (read_block (read_expr n) k) s.0 (map (λ p. p.0) more)
    (s.1 (n, k) (omega arith) (omega (arith, total)))
    (block-reads more n k (omega arith) (omega (arith, total, some)))
    rest

if-length : (c : Expr) (held : List Stmt) (other : Option (List Stmt)) → length (flat (map stmt_tokens held)) + 1 ≤ length (stmt_tokens (If c held other))
if-length c held other =
    rw (equations.stmt_tokens-if c held other) (simp length-append (omega arith))

else-length : (c : Expr) (held other : List Stmt) → length (flat (map stmt_tokens other)) + 1 ≤ length (stmt_tokens (If c held (Some other)))
else-length c held other =
    rw (equations.stmt_tokens-if c held (Some other)) (simp length-append (omega arith))

-- the tokens of a statement, read with fuel for its expressions and for its tokens, give it back and leave what follows, unless that is an else
pub read_stmt-tokens : (s : Stmt) → IsFueled s
read_stmt-tokens =
    stmt-read (ℕ × ℕ) (λ i. read_expr i.0) (λ i. read_block (read_expr i.0) i.1) (λ i. i.0) (λ i. i.1) (λ s. length (stmt_tokens s)) (λ stmts. length (flat (map stmt_tokens stmts)) + 1)
    (λ i e deep. read_expr-tokens e i.0 deep) if-length else-length (λ stmts i. block-reads stmts i.0 i.1)

-- the same of the statements of a block
pub read_block-tokens : (stmts : List Stmt) (n k : ℕ) → greatest (map expr_levels stmts) ≤ n → length (flat (map stmt_tokens stmts)) + 1 ≤ k → ReadsBlock (read_block (read_expr n) k) stmts
unfolding read_block
read_block-tokens [] n zero levels fuel rest = absurd (omega arith)
read_block-tokens [] n (suc k) levels fuel rest = first-end (read_expr n) (read_block (read_expr n) k) rest
read_block-tokens (s ∷ more) n zero levels fuel rest = absurd (omega arith)
read_block-tokens (s ∷ more) n (suc k) levels fuel rest =
    let total = length-append (stmt_tokens s) (flat (map stmt_tokens more)) in
    let some = stmt-some s in
    first-next (read_expr n) (read_block (read_expr n) k) s more
    (read_stmt-tokens s (n, k) (omega arith) (omega (arith, total)))
    (read_block-tokens more n k (omega arith) (omega (arith, total, some)))
    rest
