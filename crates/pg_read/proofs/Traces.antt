-- The tokens of trees meet their goals, and have their marks: a trace goes over tokens with goals and collects the marks.
use Rattle.std.proofs.Common.{◌≡◌, ℕ, List, [], ◌∷◌, ◌++◌, Option, None, Some, ap, sym, subst, refl}
use Rattle.pg_lang_token.specs.declared.tok.Tok.{Tok}
use Rattle.pg_ast.specs.declared.name.Name.{Name as Names}
use Rattle.pg_ast.specs.declared.tree.Op.{Op}
use Rattle.pg_ast.specs.declared.tree.Expr.{Expr}
use Rattle.pg_ast.specs.declared.tree.Expr.TheVariants.{Lit, Name, Pc, Mode, Rel, Bound, Load, Not, Bin, Cat, Cut, Ext, Sext, Sel, rolls-Lit, rolls-Name, rolls-Pc, rolls-Mode, rolls-Rel, rolls-Bound, rolls-Load, rolls-Not, rolls-Bin, rolls-Cat, rolls-Cut, rolls-Ext, rolls-Sext, rolls-Sel}
use Rattle.pg_ast.specs.declared.tree.Expr.TheOpen as Open
use Rattle.pg_ast.specs.declared.tree.Expr.TheFolds.{ind-Expr, map-Expr}
use Rattle.pg_ast.specs.declared.tree.Expr.TheViews.{roll-Expr}
use Rattle.pg_ast.specs.ExprTokens.{expr_tokens}
use Rattle.pg_ast.proofs.ExprReads.{op_of-sign}
use Rattle.pg_ast.proofs.ExprFronts as fronts
use Rattle.pg_read.specs.declared.goals.Goal.{Goal}
use Rattle.pg_read.specs.declared.goals.Goal.TheVariants as goal
use Rattle.pg_read.specs.Keywords.{expr_word}
use Rattle.pg_read.specs.Marks.{Mark, expr_marks}
use Rattle.pg_read.specs.Goals.{met, taken, expr_form}
use Rattle.pg_read.proofs.MarkEquations as marks

-- a mark in front of those of a trace
abbrev pub with_mark : Mark → Option (List Mark × List Goal) → Option (List Mark × List Goal)
with_mark m None = None
with_mark m (Some p) = Some (m ∷ p.0, p.1)

abbrev pub with_marks : List Mark → Option (List Mark × List Goal) → Option (List Mark × List Goal)
with_marks [] z = z
with_marks (m ∷ ms) z = with_mark m (with_marks ms z)

abbrev pub traced : Option (Mark × List Goal) → (List Goal → Option (List Mark × List Goal)) → Option (List Mark × List Goal)
traced None go = None
traced (Some p) go = with_mark p.0 (go p.1)

-- the marks of tokens that meet these goals, and the goals that are left
abbrev pub trace : List Goal → List Tok → Option (List Mark × List Goal)
trace gs [] = Some ([], gs)
trace gs (t ∷ ts) = traced (taken gs t) (λ left. trace left ts)

pub with_marks-append : (ms ns : List Mark) (z : Option (List Mark × List Goal)) → with_marks (ms ++ ns) z ≡ with_marks ms (with_marks ns z)
with_marks-append [] ns z = refl
with_marks-append (m ∷ ms) ns z = ap (with_mark m) (with_marks-append ms ns z)

-- ---- expressions

abbrev pub IsTraced : Expr → Type 0
IsTraced e = (n : ℕ) (gs : List Goal) (ts : List Tok) → trace (goal.Expr n ∷ gs) (expr_tokens e ++ ts) ≡ with_marks (expr_marks e n) (trace gs ts)

trace-lit : (v w : ℕ) → IsTraced (Lit v w)
unfolding taken met expr_form expr_word
trace-lit v w n gs ts = rw (fronts.expr_front-lit v w ts, marks.expr_marks-lit v w n) (refl)

trace-name : (x : Names) → IsTraced (Name x)
unfolding taken met expr_form expr_word
trace-name x n gs ts = rw (fronts.expr_front-name x ts, marks.expr_marks-name x n) (simp (x.is_name))

trace-pc : IsTraced Pc
unfolding taken met expr_form expr_word
trace-pc n gs ts = rw (fronts.expr_front-pc ts, marks.expr_marks-pc n) (refl)

trace-mode : IsTraced Mode
unfolding taken met expr_form expr_word
trace-mode n gs ts = rw (fronts.expr_front-mode ts, marks.expr_marks-mode n) (refl)

trace-rel : IsTraced Rel
unfolding taken met expr_form expr_word
trace-rel n gs ts = rw (fronts.expr_front-rel ts, marks.expr_marks-rel n) (refl)

trace-bound : IsTraced Bound
unfolding taken met expr_form expr_word
trace-bound n gs ts = rw (fronts.expr_front-bound ts, marks.expr_marks-bound n) (refl)

trace-load : (e : Expr) → IsTraced e → IsTraced (Load e)
unfolding taken met expr_form expr_word
trace-load e he n gs ts = rw (fronts.expr_front-load e ts, marks.expr_marks-load e n) (simp (he, with_marks-append))

trace-not : (e : Expr) → IsTraced e → IsTraced (Not e)
unfolding taken met expr_form expr_word
trace-not e he n gs ts = rw (fronts.expr_front-not e ts, marks.expr_marks-not e n) (simp he)

trace-bin : (op : Op) (x y : Expr) → IsTraced x → IsTraced y → IsTraced (Bin op x y)
unfolding taken met expr_form expr_word
trace-bin op x y hx hy n gs ts = rw (fronts.expr_front-bin op x y ts, marks.expr_marks-bin op x y n) (simp (hx, hy, with_marks-append, op_of-sign))

trace-cat : (x y : Expr) → IsTraced x → IsTraced y → IsTraced (Cat x y)
unfolding taken met expr_form expr_word
trace-cat x y hx hy n gs ts = rw (fronts.expr_front-cat x y ts, marks.expr_marks-cat x y n) (simp (hx, hy, with_marks-append))

trace-cut : (e : Expr) (h k : ℕ) → IsTraced e → IsTraced (Cut e h k)
unfolding taken met expr_form expr_word
trace-cut e h k he n gs ts = rw (fronts.expr_front-cut e h k ts, marks.expr_marks-cut e h k n) (simp (he, with_marks-append))

trace-ext : (e : Expr) (w : ℕ) → IsTraced e → IsTraced (Ext e w)
unfolding taken met expr_form expr_word
trace-ext e w he n gs ts = rw (fronts.expr_front-ext e w ts, marks.expr_marks-ext e w n) (simp (he, with_marks-append))

trace-sext : (e : Expr) (w : ℕ) → IsTraced e → IsTraced (Sext e w)
unfolding taken met expr_form expr_word
trace-sext e w he n gs ts = rw (fronts.expr_front-sext e w ts, marks.expr_marks-sext e w n) (simp (he, with_marks-append))

trace-sel : (c x y : Expr) → IsTraced c → IsTraced x → IsTraced y → IsTraced (Sel c x y)
unfolding taken met expr_form expr_word
trace-sel c x y hc hx hy n gs ts = rw (fronts.expr_front-sel c x y ts, marks.expr_marks-sel c x y n) (simp (hc, hx, hy, with_marks-append))

layer : (y : Open.Expr-F ((e : Expr) × IsTraced e)) → IsTraced (roll-Expr (map-Expr ((e : Expr) × IsTraced e) Expr (λ p. p.0) y))
layer (Open.Lit v w) = subst IsTraced (sym (rolls-Lit v w)) (trace-lit v w)
layer (Open.Name n) = subst IsTraced (sym (rolls-Name n)) (trace-name n)
layer Open.Pc = subst IsTraced (sym rolls-Pc) trace-pc
layer Open.Mode = subst IsTraced (sym rolls-Mode) trace-mode
layer Open.Rel = subst IsTraced (sym rolls-Rel) trace-rel
layer Open.Bound = subst IsTraced (sym rolls-Bound) trace-bound
layer (Open.Load e) = subst IsTraced (sym (rolls-Load e.0)) (trace-load e.0 e.1)
layer (Open.Not e) = subst IsTraced (sym (rolls-Not e.0)) (trace-not e.0 e.1)
layer (Open.Bin op x y) = subst IsTraced (sym (rolls-Bin op x.0 y.0)) (trace-bin op x.0 y.0 x.1 y.1)
layer (Open.Cat x y) = subst IsTraced (sym (rolls-Cat x.0 y.0)) (trace-cat x.0 y.0 x.1 y.1)
layer (Open.Cut e h k) = subst IsTraced (sym (rolls-Cut e.0 h k)) (trace-cut e.0 h k e.1)
layer (Open.Ext e n) = subst IsTraced (sym (rolls-Ext e.0 n)) (trace-ext e.0 n e.1)
layer (Open.Sext e n) = subst IsTraced (sym (rolls-Sext e.0 n)) (trace-sext e.0 n e.1)
layer (Open.Sel c x y) = subst IsTraced (sym (rolls-Sel c.0 x.0 y.0)) (trace-sel c.0 x.0 y.0 c.1 x.1 y.1)

-- the tokens of an expression meet its goal, and have its marks
pub trace_expr : (e : Expr) → IsTraced e
trace_expr = ind-Expr IsTraced (λ x y is. subst (λ z. IsTraced (roll-Expr z)) is (layer y))
