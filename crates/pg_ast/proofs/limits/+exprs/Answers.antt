use Rattle.std.proofs.Common.{arith, ap, ◌∙◌}
use Rattle.pg_ast.specs.Levels.{expr_levels}
use Rattle.pg_ast.proofs.StmtEquations.{expr_levels-if}
use Rattle.pg_ast.proofs.limits.+exprs.Goals as goal

pub has_exprs_within-returns-then-not-have_exprs_within : goal.has_exprs_within-returns-then-not-have_exprs_within
has_exprs_within-returns-then-not-have_exprs_within t c =
    let deep = ap expr_levels c.in-If.is ∙ expr_levels-if c.in-If.c c.in-If.held c.in-If.other in
    (λ h. absurd (cc), λ h. let held = c.have_exprs_within.ensures.1 (rw c.as_slice.ensures (omega (arith, deep))) in cc)

pub has_exprs_within-returns-in-Some : goal.has_exprs_within-returns-in-Some
has_exprs_within-returns-in-Some t c =
    let deep = rw c.in-Some.is at (ap expr_levels c.in-If.is ∙ expr_levels-if c.in-If.c c.in-If.held c.in-If.other) in
    let first = c.has_depth_within-in-If.ensures.0 c.if-not-has_depth_within.false in
    let held = rw c.as_slice.ensures at (c.have_exprs_within.ensures.0 c.if-not-have_exprs_within.false) in (
      λ h. let other = rw c.as_slice-in-Some.ensures at (c.have_exprs_within-in-Some.ensures.0 h) in omega (arith, deep, first, held, other),
      λ h. c.have_exprs_within-in-Some.ensures.1 (rw c.as_slice-in-Some.ensures (omega (arith, deep))),
    )
