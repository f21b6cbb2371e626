-- What a reader takes for an expression are the tokens of that expression.
use Rattle.std.proofs.Common.{◌≡◌, ℕ, zero, suc, List, [], ◌∷◌, ◌++◌, Option, None, Some, IfSome, bytes_eq, codes, ap, sym, refl}
use Rattle.pg_lang_token.specs.declared.tok.Tok.{Tok}
use Rattle.pg_lang_token.specs.declared.tok.Tok.TheVariants.{Word, Number, Pattern, Sign}
use Rattle.pg_lang_token.specs.declared.tok.Sign.{Sign as Signs}
use Rattle.pg_lang_token.specs.declared.tok.Sign.TheVariants.{OpenBrace, CloseBrace, OpenParen, CloseParen, OpenBracket, CloseBracket, Semicolon, Comma, Colon, Equals, DoubleEquals, Tilde, Plus, Minus, Star, Ampersand, Bar, Caret, LessThan, DoubleLess, DoubleGreater}
use Rattle.pg_ast.specs.declared.name.Name.{Name as Names}
use Rattle.pg_ast.specs.declared.tree.Op.{Op}
use Rattle.pg_ast.specs.declared.tree.Expr.{Expr}
use Rattle.pg_ast.specs.ExprTokens.{expr_tokens, sign_of}
use Rattle.pg_ast.specs.Reading.{past_op, op_of, name_of, read_keyword, read_word, read_sign, read_level, read_expr}
use Rattle.pg_ast.proofs.Exact.{same_word, read_at, cond-holds, then_read-holds, past_found-holds, past_sign-holds, past_number-holds, name_of-holds}
use Rattle.pg_ast.proofs.ExprFronts as fronts

-- the tokens are those of the expression, and then the rest
abbrev pub IsExprFront : List Tok → Expr × List Tok → Type 0
IsExprFront ts p = ts ≡ expr_tokens p.0 ++ p.1

-- whatever this reader reads, these were its tokens
abbrev pub IsExactExpr : (List Tok → Option (Expr × List Tok)) → Type 0
IsExactExpr read = (ts : List Tok) → IfSome (read ts) (IsExprFront ts)

op_of-holds : (s : Signs) → IfSome (op_of s) (λ op. sign_of op ≡ s)
op_of-holds OpenBrace = tt
op_of-holds CloseBrace = tt
op_of-holds OpenParen = tt
op_of-holds CloseParen = tt
op_of-holds OpenBracket = tt
op_of-holds CloseBracket = tt
op_of-holds Semicolon = tt
op_of-holds Comma = tt
op_of-holds Colon = tt
op_of-holds Equals = tt
op_of-holds DoubleEquals = refl
op_of-holds Tilde = tt
op_of-holds Plus = refl
op_of-holds Minus = refl
op_of-holds Star = refl
op_of-holds Ampersand = refl
op_of-holds Bar = refl
op_of-holds Caret = refl
op_of-holds LessThan = refl
op_of-holds DoubleLess = refl
op_of-holds DoubleGreater = refl

past_op-holds : {B : Type 0} (P : B → Type 0) (ts : List Tok) (go : Op → List Tok → Option B) → ((op : Op) (us : List Tok) → ts ≡ Sign (sign_of op) ∷ us → IfSome (go op us) P) → IfSome (past_op ts go) P
past_op-holds P [] go h = tt
past_op-holds P (Word w ∷ ts) go h = tt
past_op-holds P (Number n ∷ ts) go h = tt
past_op-holds P (Pattern w ∷ ts) go h = tt
past_op-holds P (Sign s ∷ ts) go h =
    past_found-holds P (op_of s) ts go (λ op e. h op ts (ap (λ u. Sign u ∷ ts) (sym (read_at (λ o. sign_of o ≡ s) (op_of s) op (op_of-holds s) e))))

-- one level, where r reads each expression inside
module _ (r : List Tok → Option (Expr × List Tok)) (exact : IsExactExpr r) where
  part : (us : List Tok) (e : Expr) (vs : List Tok) → r us ≡ Some (e, vs) → us ≡ expr_tokens e ++ vs
  part us e vs q = read_at (IsExprFront us) (r us) (e, vs) (exact us) q

  keyword-exact : (w : List ℕ) (ts : List Tok) → IfSome (read_keyword r w ts) (IsExprFront (Word w ∷ ts))
  unfolding read_keyword
  keyword-exact w ts =
      let all : Expr × List Tok → Type 0 = IsExprFront (Word w ∷ ts) in
      cond-holds all (bytes_eq w (codes "pc")) _ _ (λ same.
      cc (fronts.expr_front-pc ts, same_word w (codes "pc") same)) (λ other.
      cond-holds all (bytes_eq w (codes "mode")) _ _ (λ same.
      cc (fronts.expr_front-mode ts, same_word w (codes "mode") same)) (λ other.
      cond-holds all (bytes_eq w (codes "rel")) _ _ (λ same.
      cc (fronts.expr_front-rel ts, same_word w (codes "rel") same)) (λ other.
      cond-holds all (bytes_eq w (codes "bound")) _ _ (λ same.
      cc (fronts.expr_front-bound ts, same_word w (codes "bound") same)) (λ other.
      cond-holds all (bytes_eq w (codes "mem")) _ _ (λ same.
      past_sign-holds all OpenBracket ts _ (λ t1 p1.
      then_read-holds all (r t1) _ (λ e t2 p2.
      past_sign-holds all CloseBracket t2 _ (λ t3 p3.
      cc (fronts.expr_front-load e t3, same_word w (codes "mem") same, p1, part t1 e t2 p2, p3))))) (λ other.
      cond-holds all (bytes_eq w (codes "cat")) _ _ (λ same.
      past_sign-holds all OpenParen ts _ (λ t1 p1.
      then_read-holds all (r t1) _ (λ x t2 p2.
      past_sign-holds all Comma t2 _ (λ t3 p3.
      then_read-holds all (r t3) _ (λ y t4 p4.
      past_sign-holds all CloseParen t4 _ (λ t5 p5.
      cc (fronts.expr_front-cat x y t5, same_word w (codes "cat") same, p1, part t1 x t2 p2, p3, part t3 y t4 p4, p5))))))) (λ other.
      cond-holds all (bytes_eq w (codes "cut")) _ _ (λ same.
      past_sign-holds all OpenParen ts _ (λ t1 p1.
      then_read-holds all (r t1) _ (λ e t2 p2.
      past_sign-holds all Comma t2 _ (λ t3 p3.
      past_number-holds all t3 _ (λ h t4 p4.
      past_sign-holds all Comma t4 _ (λ t5 p5.
      past_number-holds all t5 _ (λ k t6 p6.
      past_sign-holds all CloseParen t6 _ (λ t7 p7.
      cc (fronts.expr_front-cut e h k t7, same_word w (codes "cut") same, p1, part t1 e t2 p2, p3, p4, p5, p6, p7))))))))) (λ other.
      cond-holds all (bytes_eq w (codes "ext")) _ _ (λ same.
      past_sign-holds all OpenParen ts _ (λ t1 p1.
      then_read-holds all (r t1) _ (λ e t2 p2.
      past_sign-holds all Comma t2 _ (λ t3 p3.
      past_number-holds all t3 _ (λ n t4 p4.
      past_sign-holds all CloseParen t4 _ (λ t5 p5.
      cc (fronts.expr_front-ext e n t5, same_word w (codes "ext") same, p1, part t1 e t2 p2, p3, p4, p5))))))) (λ other.
      cond-holds all (bytes_eq w (codes "sext")) _ _ (λ same.
      past_sign-holds all OpenParen ts _ (λ t1 p1.
      then_read-holds all (r t1) _ (λ e t2 p2.
      past_sign-holds all Comma t2 _ (λ t3 p3.
      past_number-holds all t3 _ (λ n t4 p4.
      past_sign-holds all CloseParen t4 _ (λ t5 p5.
      cc (fronts.expr_front-sext e n t5, same_word w (codes "sext") same, p1, part t1 e t2 p2, p3, p4, p5))))))) (λ other.
      cond-holds all (bytes_eq w (codes "sel")) _ _ (λ same.
      past_sign-holds all OpenParen ts _ (λ t1 p1.
      then_read-holds all (r t1) _ (λ c t2 p2.
      past_sign-holds all Comma t2 _ (λ t3 p3.
      then_read-holds all (r t3) _ (λ x t4 p4.
      past_sign-holds all Comma t4 _ (λ t5 p5.
      then_read-holds all (r t5) _ (λ y t6 p6.
      past_sign-holds all CloseParen t6 _ (λ t7 p7.
      cc (fronts.expr_front-sel c x y t7, same_word w (codes "sel") same, p1, part t1 c t2 p2, p3, part t3 x t4 p4, p5, part t5 y t6 p6, p7))))))))) (λ other.
      tt))))))))))

  name-exact : (w : List ℕ) (ts : List Tok) (found : Option Names) → name_of w ≡ found → IfSome (read_word r w ts found) (IsExprFront (Word w ∷ ts))
  name-exact w ts None e = keyword-exact w ts
  name-exact w ts (Some n) e = cc (fronts.expr_front-name n ts, read_at (λ m. m.bytes ≡ w) (name_of w) n (name_of-holds w) e)

  sign-exact : (s : Signs) (ts : List Tok) → IfSome (read_sign r s ts) (IsExprFront (Sign s ∷ ts))
  sign-exact OpenBrace ts = tt
  sign-exact CloseBrace ts = tt
  sign-exact OpenParen ts =
      let all : Expr × List Tok → Type 0 = IsExprFront (Sign OpenParen ∷ ts) in
      then_read-holds all (r ts) _ (λ x t1 p1.
      past_op-holds all t1 _ (λ op t2 p2.
      then_read-holds all (r t2) _ (λ y t3 p3.
      past_sign-holds all CloseParen t3 _ (λ t4 p4.
      cc (fronts.expr_front-bin op x y t4, part ts x t1 p1, p2, part t2 y t3 p3, p4)))))
  sign-exact CloseParen ts = tt
  sign-exact OpenBracket ts = tt
  sign-exact CloseBracket ts = tt
  sign-exact Semicolon ts = tt
  sign-exact Comma ts = tt
  sign-exact Colon ts = tt
  sign-exact Equals ts = tt
  sign-exact DoubleEquals ts = tt
  sign-exact Tilde ts =
      let all : Expr × List Tok → Type 0 = IsExprFront (Sign Tilde ∷ ts) in
      then_read-holds all (r ts) _ (λ e t1 p1.
      cc (fronts.expr_front-not e t1, part ts e t1 p1))
  sign-exact Plus ts = tt
  sign-exact Minus ts = tt
  sign-exact Star ts = tt
  sign-exact Ampersand ts = tt
  sign-exact Bar ts = tt
  sign-exact Caret ts = tt
  sign-exact LessThan ts = tt
  sign-exact DoubleLess ts = tt
  sign-exact DoubleGreater ts = tt

  level-exact : IsExactExpr (read_level r)
  unfolding read_level
  level-exact [] = tt
  level-exact (Word w ∷ ts) = name-exact w ts (name_of w) refl
  level-exact (Number v ∷ ts) =
      let all : Expr × List Tok → Type 0 = IsExprFront (Number v ∷ ts) in
      past_sign-holds all Colon ts _ (λ t1 p1.
      past_number-holds all t1 _ (λ w t2 p2.
      cc (fronts.expr_front-lit v w t2, p1, p2)))
  level-exact (Pattern w ∷ ts) = tt
  level-exact (Sign s ∷ ts) = sign-exact s ts

-- what was read as an expression are its tokens
pub read_expr-exact : (n : ℕ) → IsExactExpr (read_expr n)
unfolding read_expr
read_expr-exact zero ts = tt
read_expr-exact (suc n) ts = level-exact (read_expr n) (read_expr-exact n) ts
