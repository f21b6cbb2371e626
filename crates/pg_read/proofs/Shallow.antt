-- What was read keeps the limits on levels.
use Rattle.std.proofs.Common.{◌≡◌, ℕ, zero, suc, ◌+◌, ◌≤◌, ◌==◌, true, false, cond, List, [], ◌∷◌, length, map, Option, None, Some, IfSome, arith}
use Rattle.pg_lang_token.specs.declared.tok.Tok.{Tok}
use Rattle.pg_lang_token.specs.declared.tok.Tok.TheVariants.{Word, Number, Pattern, Sign}
use Rattle.pg_lang_token.specs.declared.tok.Sign.{Sign as Signs}
use Rattle.pg_lang_token.specs.declared.tok.Sign.TheVariants.{OpenBrace, OpenParen, CloseParen, OpenBracket, CloseBracket, Comma, Colon, Tilde, Semicolon, Equals}
use Rattle.pg_ast.specs.declared.name.Name.{Name as Names}
use Rattle.pg_ast.specs.declared.tree.Expr.{Expr}
use Rattle.pg_ast.specs.declared.tree.Stmt.{Stmt}
use Rattle.pg_ast.specs.declared.tree.Stmt.TheVariants.{Pc as ToPc, Mode as ToMode, Rel as ToRel, Bound as ToBound, If}
use Rattle.pg_ast.specs.Levels.{most_expr_levels, most_block_levels, depth_of, greatest, expr_levels, block_levels, IsShallow}
use Rattle.pg_ast.specs.Reading.{past_sign, past_close, past_else, sign_number, name_of, read_expr, read_level, read_word, read_sign, read_stmt}
use Rattle.pg_ast.proofs.Exact.{read_at, then_read-holds}
use Rattle.pg_ast.proofs.ExprEquations as exprs
use Rattle.pg_ast.proofs.StmtEquations as stmts
use Rattle.pg_read.specs.declared.words.ExprWord.{ExprWord}
use Rattle.pg_read.specs.declared.words.ExprWord.TheVariants as expr
use Rattle.pg_read.specs.declared.words.StmtWord.{StmtWord}
use Rattle.pg_read.specs.declared.words.StmtWord.TheVariants as stmt
use Rattle.pg_read.specs.Steps.{alone, number_at, name_at, op_at}
use Rattle.pg_read.specs.Keywords.{expr_word, stmt_word}
use Rattle.pg_read.specs.Forms.{lit_at, load_at, not_at, bin_at, cat_at, cut_at, ext_at, sext_at, sel_at, expr_word_at, value_at, let_at, store_at, assign_at, trap_at, else_found, if_at, stmt_word_at}
use Rattle.pg_read.specs.Blocks.{stmts_next, stmts_at, body_at}
use Rattle.pg_read.proofs.FormLemmas.{lit-form, not-form, bin-form, keyword-form, stmt-form}

-- what holds of all that a reader reads holds of what it reads behind a sign
past_sign-keeps : {A : Type 0} (P : A × List Tok → Type 0) (s : Signs) (ts : List Tok) (r : List Tok → Option (A × List Tok)) → ((us : List Tok) → IfSome (r us) P) → IfSome (past_sign s ts r) P
past_sign-keeps P s [] r h = tt
past_sign-keeps P s (Word w ∷ ts) r h = tt
past_sign-keeps P s (Number n ∷ ts) r h = tt
past_sign-keeps P s (Pattern w ∷ ts) r h = tt
past_sign-keeps P s (Sign t ∷ ts) r h = elim (sign_number t == sign_number s) as (λ c. IfSome (cond c (r ts) None) P) [ true ↦ h ts | false ↦ tt ]

-- an expression has at most so many levels
abbrev pub HasLevels : ℕ → Expr × List Tok → Type 0
HasLevels n p = depth_of p.0 ≤ n

-- one level, where r reads expressions of at most n levels
module _ (n : ℕ) (r : List Tok → Option (Expr × List Tok)) (within : (ts : List Tok) → IfSome (r ts) (HasLevels n)) where
  part : (ts : List Tok) (e : Expr) (us : List Tok) → r ts ≡ Some (e, us) → depth_of e ≤ n
  part ts e us q = read_at (HasLevels n) (r ts) (e, us) (within ts) q

  behind : (s : Signs) (ts : List Tok) (e : Expr) (us : List Tok) → past_sign s ts r ≡ Some (e, us) → depth_of e ≤ n
  behind s ts e us q = read_at (HasLevels n) (past_sign s ts r) (e, us) (past_sign-keeps (HasLevels n) s ts r within) q

  lit-levels : (v : ℕ) (ts : List Tok) → IfSome (lit_at v ts) (HasLevels (suc n))
  unfolding lit_at
  lit-levels v ts = then_read-holds (HasLevels (suc n)) (past_sign Colon ts number_at) _ (λ w us p. omega (arith, exprs.depth_of-lit v w))

  load-levels : (ts : List Tok) → IfSome (load_at r ts) (HasLevels (suc n))
  unfolding load_at
  load-levels ts =
      then_read-holds (HasLevels (suc n)) (past_sign OpenBracket ts r) _ (λ e t1 p1.
      then_read-holds (HasLevels (suc n)) (past_sign CloseBracket t1 alone) _ (λ x t2 p2.
      omega (arith, exprs.depth_of-load e, behind OpenBracket ts e t1 p1)))

  not-levels : (ts : List Tok) → IfSome (not_at r ts) (HasLevels (suc n))
  unfolding not_at
  not-levels ts = then_read-holds (HasLevels (suc n)) (r ts) _ (λ e t1 p1. omega (arith, exprs.depth_of-not e, part ts e t1 p1))

  bin-levels : (ts : List Tok) → IfSome (bin_at r ts) (HasLevels (suc n))
  unfolding bin_at
  bin-levels ts =
      then_read-holds (HasLevels (suc n)) (r ts) _ (λ x t1 p1.
      then_read-holds (HasLevels (suc n)) (op_at t1) _ (λ op t2 p2.
      then_read-holds (HasLevels (suc n)) (r t2) _ (λ y t3 p3.
      then_read-holds (HasLevels (suc n)) (past_sign CloseParen t3 alone) _ (λ z t4 p4.
      omega (arith, exprs.depth_of-bin op x y, part ts x t1 p1, part t2 y t3 p3)))))

  cat-levels : (ts : List Tok) → IfSome (cat_at r ts) (HasLevels (suc n))
  unfolding cat_at
  cat-levels ts =
      then_read-holds (HasLevels (suc n)) (past_sign OpenParen ts r) _ (λ x t1 p1.
      then_read-holds (HasLevels (suc n)) (past_sign Comma t1 r) _ (λ y t2 p2.
      then_read-holds (HasLevels (suc n)) (past_sign CloseParen t2 alone) _ (λ z t3 p3.
      omega (arith, exprs.depth_of-cat x y, behind OpenParen ts x t1 p1, behind Comma t1 y t2 p2))))

  cut-levels : (ts : List Tok) → IfSome (cut_at r ts) (HasLevels (suc n))
  unfolding cut_at
  cut-levels ts =
      then_read-holds (HasLevels (suc n)) (past_sign OpenParen ts r) _ (λ e t1 p1.
      then_read-holds (HasLevels (suc n)) (past_sign Comma t1 number_at) _ (λ h t2 p2.
      then_read-holds (HasLevels (suc n)) (past_sign Comma t2 number_at) _ (λ k t3 p3.
      then_read-holds (HasLevels (suc n)) (past_sign CloseParen t3 alone) _ (λ z t4 p4.
      omega (arith, exprs.depth_of-cut e h k, behind OpenParen ts e t1 p1)))))

  ext-levels : (ts : List Tok) → IfSome (ext_at r ts) (HasLevels (suc n))
  unfolding ext_at
  ext-levels ts =
      then_read-holds (HasLevels (suc n)) (past_sign OpenParen ts r) _ (λ e t1 p1.
      then_read-holds (HasLevels (suc n)) (past_sign Comma t1 number_at) _ (λ h t2 p2.
      then_read-holds (HasLevels (suc n)) (past_sign CloseParen t2 alone) _ (λ z t3 p3.
      omega (arith, exprs.depth_of-ext e h, behind OpenParen ts e t1 p1))))

  sext-levels : (ts : List Tok) → IfSome (sext_at r ts) (HasLevels (suc n))
  unfolding sext_at
  sext-levels ts =
      then_read-holds (HasLevels (suc n)) (past_sign OpenParen ts r) _ (λ e t1 p1.
      then_read-holds (HasLevels (suc n)) (past_sign Comma t1 number_at) _ (λ h t2 p2.
      then_read-holds (HasLevels (suc n)) (past_sign CloseParen t2 alone) _ (λ z t3 p3.
      omega (arith, exprs.depth_of-sext e h, behind OpenParen ts e t1 p1))))

  sel-levels : (ts : List Tok) → IfSome (sel_at r ts) (HasLevels (suc n))
  unfolding sel_at
  sel-levels ts =
      then_read-holds (HasLevels (suc n)) (past_sign OpenParen ts r) _ (λ c t1 p1.
      then_read-holds (HasLevels (suc n)) (past_sign Comma t1 r) _ (λ x t2 p2.
      then_read-holds (HasLevels (suc n)) (past_sign Comma t2 r) _ (λ y t3 p3.
      then_read-holds (HasLevels (suc n)) (past_sign CloseParen t3 alone) _ (λ z t4 p4.
      omega (arith, exprs.depth_of-sel c x y, behind OpenParen ts c t1 p1, behind Comma t1 x t2 p2, behind Comma t2 y t3 p3)))))

  word-levels : (k : Option ExprWord) (ts : List Tok) → IfSome (expr_word_at r k ts) (HasLevels (suc n))
  word-levels None ts = tt
  word-levels (Some expr.Pc) ts = omega (arith, exprs.depth_of-pc)
  word-levels (Some expr.Mode) ts = omega (arith, exprs.depth_of-mode)
  word-levels (Some expr.Rel) ts = omega (arith, exprs.depth_of-rel)
  word-levels (Some expr.Bound) ts = omega (arith, exprs.depth_of-bound)
  word-levels (Some expr.Mem) ts = load-levels ts
  word-levels (Some expr.Cat) ts = cat-levels ts
  word-levels (Some expr.Cut) ts = cut-levels ts
  word-levels (Some expr.Ext) ts = ext-levels ts
  word-levels (Some expr.Sext) ts = sext-levels ts
  word-levels (Some expr.Sel) ts = sel-levels ts

  name-levels : (w : List ℕ) (ts : List Tok) (found : Option Names) → IfSome (read_word r w ts found) (HasLevels (suc n))
  name-levels w ts (Some m) = omega (arith, exprs.depth_of-name m)
  name-levels w ts None = rw (← (keyword-form r ts w)) (word-levels (expr_word w) ts)

  sign-levels : (s : Signs) (ts : List Tok) → IfSome (read_sign r s ts) (HasLevels (suc n))
  sign-levels Tilde ts = rw (← (not-form r ts)) (not-levels ts)
  sign-levels OpenParen ts = rw (← (bin-form r ts)) (bin-levels ts)
  sign-levels _ ts = tt

  level-levels : (ts : List Tok) → IfSome (read_level r ts) (HasLevels (suc n))
  unfolding read_level
  level-levels [] = tt
  level-levels (Word w ∷ ts) = name-levels w ts (name_of w)
  level-levels (Number v ∷ ts) = rw (← (lit-form r ts v)) (lit-levels v ts)
  level-levels (Pattern w ∷ ts) = tt
  level-levels (Sign s ∷ ts) = sign-levels s ts

-- an expression that was read has at most as many levels as were left
pub expr-levels : (n : ℕ) (ts : List Tok) → IfSome (read_expr n ts) (HasLevels n)
unfolding read_expr
expr-levels zero ts = tt
expr-levels (suc n) ts = level-levels n (read_expr n) (expr-levels n) ts

-- a statement keeps the limit of expressions, and has blocks of at most so many levels inside
pub record KeepsLimits (n : ℕ) (s : Stmt) : Type 0 where
  pub exprs : expr_levels s ≤ most_expr_levels
  pub blocks : block_levels s ≤ n

-- the same of the statements of a block, which is one level itself
pub record BlockKeepsLimits (n : ℕ) (ss : List Stmt) : Type 0 where
  pub exprs : greatest (map expr_levels ss) ≤ most_expr_levels
  pub blocks : 1 + greatest (map block_levels ss) ≤ n

abbrev StmtWithin : ℕ → Stmt × List Tok → Type 0
StmtWithin n p = KeepsLimits n p.0

abbrev pub BlockWithin : ℕ → List Stmt × List Tok → Type 0
BlockWithin n p = BlockKeepsLimits n p.0

value-levels : (ts : List Tok) → IfSome (value_at (read_expr most_expr_levels) ts) (HasLevels most_expr_levels)
unfolding value_at
value-levels ts =
    then_read-holds (HasLevels most_expr_levels) (past_sign Equals ts (read_expr most_expr_levels)) _ (λ e t1 p1.
    then_read-holds (HasLevels most_expr_levels) (past_sign Semicolon t1 alone) _ (λ z t2 p2.
    behind most_expr_levels (read_expr most_expr_levels) (expr-levels most_expr_levels) Equals ts e t1 p1))

value : (ts : List Tok) (e : Expr) (us : List Tok) → value_at (read_expr most_expr_levels) ts ≡ Some (e, us) → depth_of e ≤ most_expr_levels
value ts e us q = read_at (HasLevels most_expr_levels) (value_at (read_expr most_expr_levels) ts) (e, us) (value-levels ts) q

-- one statement, where b reads blocks of at most n levels
module _ (n : ℕ) (b : List Tok → Option (List Stmt × List Tok)) (within : (ts : List Tok) → IfSome (b ts) (BlockWithin n)) where
  block : (s : Signs) (ts : List Tok) (ss : List Stmt) (us : List Tok) → past_sign s ts b ≡ Some (ss, us) → BlockKeepsLimits n ss
  block s ts ss us q = read_at (BlockWithin n) (past_sign s ts b) (ss, us) (past_sign-keeps (BlockWithin n) s ts b within) q

  let-limits : (ts : List Tok) → IfSome (let_at (read_expr most_expr_levels) ts) (StmtWithin n)
  unfolding let_at
  let-limits ts =
      then_read-holds (StmtWithin n) (name_at ts) _ (λ m t1 p1.
      then_read-holds (StmtWithin n) (value_at (read_expr most_expr_levels) t1) _ (λ e t2 p2.
      record { exprs = omega (arith, stmts.expr_levels-let m e, value t1 e t2 p2); blocks = omega (arith, stmts.block_levels-let m e) }))

  store-limits : (ts : List Tok) → IfSome (store_at (read_expr most_expr_levels) ts) (StmtWithin n)
  unfolding store_at
  store-limits ts =
      then_read-holds (StmtWithin n) (past_sign OpenBracket ts (read_expr most_expr_levels)) _ (λ a t1 p1.
      then_read-holds (StmtWithin n) (past_sign CloseBracket t1 alone) _ (λ z t2 p2.
      then_read-holds (StmtWithin n) (value_at (read_expr most_expr_levels) t2) _ (λ e t3 p3.
      record {
        exprs = omega (arith, stmts.expr_levels-store a e, behind most_expr_levels (read_expr most_expr_levels) (expr-levels most_expr_levels) OpenBracket ts a t1 p1, value t2 e t3 p3);
        blocks = omega (arith, stmts.block_levels-store a e);
      })))

  assign-limits : (make : Expr → Stmt) → ((e : Expr) → expr_levels (make e) ≡ depth_of e) → ((e : Expr) → block_levels (make e) ≡ 0) → (ts : List Tok) → IfSome (assign_at (read_expr most_expr_levels) make ts) (StmtWithin n)
  unfolding assign_at
  assign-limits make levels nested ts =
      then_read-holds (StmtWithin n) (value_at (read_expr most_expr_levels) ts) _ (λ e t1 p1.
      record { exprs = omega (arith, levels e, value ts e t1 p1); blocks = omega (arith, nested e) })

  trap-limits : (ts : List Tok) → IfSome (trap_at ts) (StmtWithin n)
  unfolding trap_at
  trap-limits ts =
      then_read-holds (StmtWithin n) (past_sign Semicolon ts alone) _ (λ z t1 p1.
      record { exprs = omega (arith, stmts.expr_levels-trap); blocks = omega (arith, stmts.block_levels-trap) })

  -- an if of these parts keeps the limits
  if-made : (c : Expr) (held : List Stmt) (other : Option (List Stmt)) → depth_of c ≤ most_expr_levels → BlockKeepsLimits n held → IfSome other (BlockKeepsLimits n) → KeepsLimits n (If c held other)
  if-made c held None hc hheld hother =
      let he = hheld.exprs in let hb = hheld.blocks in
      record { exprs = omega (arith, stmts.expr_levels-if c held None); blocks = omega (arith, stmts.block_levels-if c held None) }
  if-made c held (Some other) hc hheld hother =
      let he = hheld.exprs in let hb = hheld.blocks in let oe = hother.exprs in let ob = hother.blocks in
      record { exprs = omega (arith, stmts.expr_levels-if c held (Some other)); blocks = omega (arith, stmts.block_levels-if c held (Some other)) }

  abbrev OtherWithin : Option (List Stmt) × List Tok → Type 0
  OtherWithin p = IfSome p.0 (BlockKeepsLimits n)

  else-limits : (ts : List Tok) (found : Option (List Tok)) → IfSome (else_found b ts found) OtherWithin
  else-limits ts None = tt
  else-limits ts (Some us) = then_read-holds OtherWithin (past_sign OpenBrace us b) _ (λ other t1 p1. block OpenBrace us other t1 p1)

  if-limits : (ts : List Tok) → IfSome (if_at (read_expr most_expr_levels) b ts) (StmtWithin n)
  unfolding if_at
  if-limits ts =
      then_read-holds (StmtWithin n) (read_expr most_expr_levels ts) _ (λ c t1 p1.
      then_read-holds (StmtWithin n) (past_sign OpenBrace t1 b) _ (λ held t2 p2.
      then_read-holds (StmtWithin n) (else_found b t2 (past_else t2)) _ (λ other t3 p3.
      if-made c held other (part most_expr_levels (read_expr most_expr_levels) (expr-levels most_expr_levels) ts c t1 p1) (block OpenBrace t1 held t2 p2)
      (read_at OtherWithin (else_found b t2 (past_else t2)) (other, t3) (else-limits t2 (past_else t2)) p3))))

  stmt_word-limits : (k : Option StmtWord) (ts : List Tok) → IfSome (stmt_word_at (read_expr most_expr_levels) b k ts) (StmtWithin n)
  stmt_word-limits None ts = tt
  stmt_word-limits (Some stmt.Let) ts = let-limits ts
  stmt_word-limits (Some stmt.Mem) ts = store-limits ts
  stmt_word-limits (Some stmt.Pc) ts = assign-limits ToPc stmts.expr_levels-pc stmts.block_levels-pc ts
  stmt_word-limits (Some stmt.Mode) ts = assign-limits ToMode stmts.expr_levels-mode stmts.block_levels-mode ts
  stmt_word-limits (Some stmt.Rel) ts = assign-limits ToRel stmts.expr_levels-rel stmts.block_levels-rel ts
  stmt_word-limits (Some stmt.Bound) ts = assign-limits ToBound stmts.expr_levels-bound stmts.block_levels-bound ts
  stmt_word-limits (Some stmt.Trap) ts = trap-limits ts
  stmt_word-limits (Some stmt.If) ts = if-limits ts

  stmt-limits : (ts : List Tok) → IfSome (read_stmt (read_expr most_expr_levels) b ts) (StmtWithin n)
  unfolding read_stmt
  stmt-limits [] = tt
  stmt-limits (Word w ∷ ts) = rw (← (stmt-form (read_expr most_expr_levels) b w ts)) (stmt_word-limits (stmt_word w) ts)
  stmt-limits (Number m ∷ ts) = tt
  stmt-limits (Pattern w ∷ ts) = tt
  stmt-limits (Sign s ∷ ts) = tt

module _ (n : ℕ) (stmt : List Tok → Option (Stmt × List Tok)) (one : (ts : List Tok) → IfSome (stmt ts) (StmtWithin n)) where
  next-limits : (others : List Tok → Option (List Stmt × List Tok)) → ((ts : List Tok) → IfSome (others ts) (BlockWithin (suc n))) → (ts : List Tok) (found : Option (List Tok)) →
      IfSome (stmts_next stmt others ts found) (BlockWithin (suc n))
  next-limits others more ts (Some rest) = record { exprs = omega arith; blocks = omega arith }
  next-limits others more ts None =
      then_read-holds (BlockWithin (suc n)) (stmt ts) _ (λ s t1 p1.
      then_read-holds (BlockWithin (suc n)) (others t1) _ (λ ss t2 p2.
      let first = read_at (StmtWithin n) (stmt ts) (s, t1) (one ts) p1 in
      let behind_it = read_at (BlockWithin (suc n)) (others t1) (ss, t2) (more t1) p2 in
      let fe = first.exprs in let fb = first.blocks in let be = behind_it.exprs in let bb = behind_it.blocks in
      record { exprs = omega arith; blocks = omega arith }))

  stmts-limits : (k : ℕ) (ts : List Tok) → IfSome (stmts_at stmt k ts) (BlockWithin (suc n))
  unfolding stmts_at
  stmts-limits zero ts = tt
  stmts-limits (suc k) ts = next-limits (stmts_at stmt k) (stmts-limits k) ts (past_close ts)

-- the statements of a block that was read keep the limits
pub body-limits : (n : ℕ) (ts : List Tok) → IfSome (body_at n ts) (BlockWithin n)
unfolding body_at
body-limits zero ts = tt
body-limits (suc n) ts = stmts-limits n (read_stmt (read_expr most_expr_levels) (body_at n)) (stmt-limits n (body_at n) (body-limits n)) (suc (length ts)) ts

-- and so does a body
pub body-shallow : (ts us : List Tok) (body : List Stmt) → past_sign OpenBrace ts (body_at most_block_levels) ≡ Some (body, us) → IsShallow body
body-shallow ts us body e =
    let keeps = read_at (BlockWithin most_block_levels) (past_sign OpenBrace ts (body_at most_block_levels)) (body, us) (past_sign-keeps (BlockWithin most_block_levels) OpenBrace ts (body_at most_block_levels) (body-limits most_block_levels)) e in
    record { blocks = keeps.blocks; exprs = keeps.exprs }
