-- An expression has a level.
use Rattle.std.proofs.Common.{ℕ, ◌≤◌, subst, sym, arith}
use Rattle.pg_ast.specs.declared.tree.Expr.{Expr}
use Rattle.pg_ast.specs.declared.tree.Expr.TheOpen.{Expr-F, Lit, Name, Pc, Mode, Rel, Bound, Load, Not, Bin, Cat, Cut, Ext, Sext, Sel}
use Rattle.pg_ast.specs.declared.tree.Expr.TheFolds.{ind-Expr, fold-roll-Expr}
use Rattle.pg_ast.specs.Levels.{depth_of, depth_step}

step-some : (x : Expr-F ℕ) → 1 ≤ depth_step x
step-some (Lit v w) = omega arith
step-some (Name n) = omega arith
step-some Pc = omega arith
step-some Mode = omega arith
step-some Rel = omega arith
step-some Bound = omega arith
step-some (Load e) = omega arith
step-some (Not e) = omega arith
step-some (Bin op x y) = omega arith
step-some (Cat x y) = omega arith
step-some (Cut e h k) = omega arith
step-some (Ext e n) = omega arith
step-some (Sext e n) = omega arith
step-some (Sel c x y) = omega arith

pub depth_some : (e : Expr) → 1 ≤ depth_of e
unfolding depth_of
depth_some = ind-Expr (λ e. 1 ≤ depth_of e) (λ x y is. subst (λ n. 1 ≤ n) (sym (fold-roll-Expr ℕ depth_step x)) (step-some _))
