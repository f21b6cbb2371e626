-- Reading the tokens of an expression gives the expression back.
use Rattle.std.proofs.Common.{◌≡◌, ℕ, zero, suc, ◌≤◌, Bool, true, false, List, ◌++◌, Option, Some, ap, sym, subst, refl, arith}
use Rattle.std.proofs.Math.Bool.{Bool-set}
use Rattle.pg_lang_token.specs.Words.{is_name}
use Rattle.pg_lang_token.specs.declared.tok.Tok.{Tok}
use Rattle.pg_ast.specs.declared.name.Name.{Name as Names}
use Rattle.pg_ast.specs.declared.tree.Op.{Op}
use Rattle.pg_ast.specs.declared.tree.Op.TheVariants.{Add, Sub, Mul, And, Or, Xor, Eq, Lt, Shl, Shr}
use Rattle.pg_ast.specs.declared.tree.Expr.{Expr}
use Rattle.pg_ast.specs.declared.tree.Expr.TheVariants.{Lit, Name, Pc, Mode, Rel, Bound, Load, Not, Bin, Cat, Cut, Ext, Sext, Sel, rolls-Lit, rolls-Name, rolls-Pc, rolls-Mode, rolls-Rel, rolls-Bound, rolls-Load, rolls-Not, rolls-Bin, rolls-Cat, rolls-Cut, rolls-Ext, rolls-Sext, rolls-Sel}
use Rattle.pg_ast.specs.declared.tree.Expr.TheOpen as Open
use Rattle.pg_ast.specs.declared.tree.Expr.TheFolds.{ind-Expr, map-Expr}
use Rattle.pg_ast.specs.declared.tree.Expr.TheViews.{roll-Expr}
use Rattle.pg_ast.specs.ExprTokens.{expr_tokens, sign_of}
use Rattle.pg_ast.specs.Levels.{depth_of}
use Rattle.pg_ast.specs.Reading.{name_when, name_of, op_of, read_keyword, read_level, read_expr}
use Rattle.pg_ast.proofs.ExprEquations as equations
use Rattle.pg_ast.proofs.ExprFronts as fronts

name_when-known : (n : Names) (b : Bool) (e : is_name n.bytes ≡ b) → name_when n.bytes b e ≡ Some n
name_when-known n true e = ap (λ p. Some (record { bytes = n.bytes; is_name = p })) (Bool-set _ _ e n.is_name)
name_when-known n false e = cc (n.is_name)

-- a name is found by its bytes
pub name_of-bytes : (n : Names) → name_of n.bytes ≡ Some n
unfolding name_of
name_of-bytes n = name_when-known n (is_name n.bytes) refl

-- the sign of an operator tells which
pub op_of-sign : (op : Op) → op_of (sign_of op) ≡ Some op
op_of-sign Add = refl
op_of-sign Sub = refl
op_of-sign Mul = refl
op_of-sign And = refl
op_of-sign Or = refl
op_of-sign Xor = refl
op_of-sign Eq = refl
op_of-sign Lt = refl
op_of-sign Shl = refl
op_of-sign Shr = refl

-- a reader gives this expression for its tokens, whatever follows them
abbrev pub Reads : (List Tok → Option (Expr × List Tok)) → Expr → Type 0
Reads read e = (rest : List Tok) → read (expr_tokens e ++ rest) ≡ Some (e, rest)

-- one level, where r reads each expression inside
module _ (r : List Tok → Option (Expr × List Tok)) where
  level-lit : (v w : ℕ) → Reads (read_level r) (Lit v w)
  unfolding read_level
  level-lit v w rest = rw (fronts.expr_front-lit v w rest) refl

  level-name : (n : Names) → Reads (read_level r) (Name n)
  unfolding read_level
  level-name n rest = rw (fronts.expr_front-name n rest) (simp name_of-bytes)

  level-pc : Reads (read_level r) Pc
  unfolding read_level read_keyword name_of
  level-pc rest = rw (fronts.expr_front-pc rest) refl

  level-mode : Reads (read_level r) Mode
  unfolding read_level read_keyword name_of
  level-mode rest = rw (fronts.expr_front-mode rest) refl

  level-rel : Reads (read_level r) Rel
  unfolding read_level read_keyword name_of
  level-rel rest = rw (fronts.expr_front-rel rest) refl

  level-bound : Reads (read_level r) Bound
  unfolding read_level read_keyword name_of
  level-bound rest = rw (fronts.expr_front-bound rest) refl

  level-load : (e : Expr) → Reads r e → Reads (read_level r) (Load e)
  unfolding read_level read_keyword name_of
  level-load e he rest = rw (fronts.expr_front-load e rest) (simp he)

  level-not : (e : Expr) → Reads r e → Reads (read_level r) (Not e)
  unfolding read_level
  level-not e he rest = rw (fronts.expr_front-not e rest) (simp he)

  level-bin : (op : Op) (x y : Expr) → Reads r x → Reads r y → Reads (read_level r) (Bin op x y)
  unfolding read_level
  level-bin op x y hx hy rest = rw (fronts.expr_front-bin op x y rest) (simp (hx, hy, op_of-sign))

  level-cat : (x y : Expr) → Reads r x → Reads r y → Reads (read_level r) (Cat x y)
  unfolding read_level read_keyword name_of
  level-cat x y hx hy rest = rw (fronts.expr_front-cat x y rest) (simp (hx, hy))

  level-cut : (e : Expr) (h k : ℕ) → Reads r e → Reads (read_level r) (Cut e h k)
  unfolding read_level read_keyword name_of
  level-cut e h k he rest = rw (fronts.expr_front-cut e h k rest) (simp he)

  level-ext : (e : Expr) (n : ℕ) → Reads r e → Reads (read_level r) (Ext e n)
  unfolding read_level read_keyword name_of
  level-ext e n he rest = rw (fronts.expr_front-ext e n rest) (simp he)

  level-sext : (e : Expr) (n : ℕ) → Reads r e → Reads (read_level r) (Sext e n)
  unfolding read_level read_keyword name_of
  level-sext e n he rest = rw (fronts.expr_front-sext e n rest) (simp he)

  level-sel : (c x y : Expr) → Reads r c → Reads r x → Reads r y → Reads (read_level r) (Sel c x y)
  unfolding read_level read_keyword name_of
  level-sel c x y hc hx hy rest = rw (fronts.expr_front-sel c x y rest) (simp (hc, hx, hy))

-- with fuel for its levels a reader gives this expression
abbrev IsRead : Expr → Type 0
IsRead e = (n : ℕ) → depth_of e ≤ n → Reads (read_expr n) e

read_expr-level : (e : Expr) → 1 ≤ depth_of e → ((n : ℕ) → depth_of e ≤ suc n → Reads (read_level (read_expr n)) e) → IsRead e
unfolding read_expr
read_expr-level e some level zero fits = absurd (omega arith)
read_expr-level e some level (suc n) fits = level n fits

read_expr-lit : (v w : ℕ) → IsRead (Lit v w)
read_expr-lit v w = read_expr-level (Lit v w) (omega (arith, equations.depth_of-lit v w)) (λ m fits. level-lit (read_expr m) v w)

read_expr-name : (n : Names) → IsRead (Name n)
read_expr-name n = read_expr-level (Name n) (omega (arith, equations.depth_of-name n)) (λ m fits. level-name (read_expr m) n)

read_expr-pc : IsRead Pc
read_expr-pc = read_expr-level Pc (omega (arith, equations.depth_of-pc)) (λ m fits. level-pc (read_expr m))

read_expr-mode : IsRead Mode
read_expr-mode = read_expr-level Mode (omega (arith, equations.depth_of-mode)) (λ m fits. level-mode (read_expr m))

read_expr-rel : IsRead Rel
read_expr-rel = read_expr-level Rel (omega (arith, equations.depth_of-rel)) (λ m fits. level-rel (read_expr m))

read_expr-bound : IsRead Bound
read_expr-bound = read_expr-level Bound (omega (arith, equations.depth_of-bound)) (λ m fits. level-bound (read_expr m))

read_expr-load : (e : Expr) → IsRead e → IsRead (Load e)
read_expr-load e he = read_expr-level (Load e) (omega (arith, equations.depth_of-load e)) (λ m fits. level-load (read_expr m) e (he m (omega (arith, equations.depth_of-load e))))

read_expr-not : (e : Expr) → IsRead e → IsRead (Not e)
read_expr-not e he = read_expr-level (Not e) (omega (arith, equations.depth_of-not e)) (λ m fits. level-not (read_expr m) e (he m (omega (arith, equations.depth_of-not e))))

read_expr-bin : (op : Op) (x y : Expr) → IsRead x → IsRead y → IsRead (Bin op x y)
read_expr-bin op x y hx hy = read_expr-level (Bin op x y) (omega (arith, equations.depth_of-bin op x y)) (λ m fits. level-bin (read_expr m) op x y (hx m (omega (arith, equations.depth_of-bin op x y))) (hy m (omega (arith, equations.depth_of-bin op x y))))

read_expr-cat : (x y : Expr) → IsRead x → IsRead y → IsRead (Cat x y)
read_expr-cat x y hx hy = read_expr-level (Cat x y) (omega (arith, equations.depth_of-cat x y)) (λ m fits. level-cat (read_expr m) x y (hx m (omega (arith, equations.depth_of-cat x y))) (hy m (omega (arith, equations.depth_of-cat x y))))

read_expr-cut : (e : Expr) (h k : ℕ) → IsRead e → IsRead (Cut e h k)
read_expr-cut e h k he = read_expr-level (Cut e h k) (omega (arith, equations.depth_of-cut e h k)) (λ m fits. level-cut (read_expr m) e h k (he m (omega (arith, equations.depth_of-cut e h k))))

read_expr-ext : (e : Expr) (n : ℕ) → IsRead e → IsRead (Ext e n)
read_expr-ext e n he = read_expr-level (Ext e n) (omega (arith, equations.depth_of-ext e n)) (λ m fits. level-ext (read_expr m) e n (he m (omega (arith, equations.depth_of-ext e n))))

read_expr-sext : (e : Expr) (n : ℕ) → IsRead e → IsRead (Sext e n)
read_expr-sext e n he = read_expr-level (Sext e n) (omega (arith, equations.depth_of-sext e n)) (λ m fits. level-sext (read_expr m) e n (he m (omega (arith, equations.depth_of-sext e n))))

read_expr-sel : (c x y : Expr) → IsRead c → IsRead x → IsRead y → IsRead (Sel c x y)
read_expr-sel c x y hc hx hy = read_expr-level (Sel c x y) (omega (arith, equations.depth_of-sel c x y)) (λ m fits. level-sel (read_expr m) c x y (hc m (omega (arith, equations.depth_of-sel c x y))) (hx m (omega (arith, equations.depth_of-sel c x y))) (hy m (omega (arith, equations.depth_of-sel c x y))))

read_expr-layer : (y : Open.Expr-F ((e : Expr) × IsRead e)) → IsRead (roll-Expr (map-Expr ((e : Expr) × IsRead e) Expr (λ p. p.0) y))
read_expr-layer (Open.Lit v w) = subst IsRead (sym (rolls-Lit v w)) (read_expr-lit v w)
read_expr-layer (Open.Name n) = subst IsRead (sym (rolls-Name n)) (read_expr-name n)
read_expr-layer Open.Pc = subst IsRead (sym rolls-Pc) read_expr-pc
read_expr-layer Open.Mode = subst IsRead (sym rolls-Mode) read_expr-mode
read_expr-layer Open.Rel = subst IsRead (sym rolls-Rel) read_expr-rel
read_expr-layer Open.Bound = subst IsRead (sym rolls-Bound) read_expr-bound
read_expr-layer (Open.Load e) = subst IsRead (sym (rolls-Load e.0)) (read_expr-load e.0 e.1)
read_expr-layer (Open.Not e) = subst IsRead (sym (rolls-Not e.0)) (read_expr-not e.0 e.1)
read_expr-layer (Open.Bin op x y) = subst IsRead (sym (rolls-Bin op x.0 y.0)) (read_expr-bin op x.0 y.0 x.1 y.1)
read_expr-layer (Open.Cat x y) = subst IsRead (sym (rolls-Cat x.0 y.0)) (read_expr-cat x.0 y.0 x.1 y.1)
read_expr-layer (Open.Cut e h k) = subst IsRead (sym (rolls-Cut e.0 h k)) (read_expr-cut e.0 h k e.1)
read_expr-layer (Open.Ext e n) = subst IsRead (sym (rolls-Ext e.0 n)) (read_expr-ext e.0 n e.1)
read_expr-layer (Open.Sext e n) = subst IsRead (sym (rolls-Sext e.0 n)) (read_expr-sext e.0 n e.1)
read_expr-layer (Open.Sel c x y) = subst IsRead (sym (rolls-Sel c.0 x.0 y.0)) (read_expr-sel c.0 x.0 y.0 c.1 x.1 y.1)

-- the tokens of an expression, read with fuel for its levels, give it back and leave what follows
pub read_expr-tokens : (e : Expr) (n : ℕ) → depth_of e ≤ n → (rest : List Tok) → read_expr n (expr_tokens e ++ rest) ≡ Some (e, rest)
read_expr-tokens = ind-Expr IsRead (λ x y is. subst (λ z. IsRead (roll-Expr z)) is (read_expr-layer y))
