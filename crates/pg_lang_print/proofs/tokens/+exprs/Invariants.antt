use Rattle.std.proofs.Common.{◌+◌, ◌*◌}
use Rattle.pg_ast.specs.declared.tree.Expr.TheVariants.{Load, Not, Bin, Cat, Cut, Ext, Sel}
use Rattle.pg_ast.specs.Levels.{depth_of}
use Rattle.pg_lang_print.proofs.tokens.+exprs.Given as goal

abbrev pub decreases-put_expr : goal.decreases-put_expr
decreases-put_expr l = 2 * depth_of l.expr.now + 1

abbrev pub decreases-put_load : goal.decreases-put_load
decreases-put_load l = 2 * depth_of (Load l.e.now)

abbrev pub decreases-put_not : goal.decreases-put_not
decreases-put_not l = 2 * depth_of (Not l.e.now)

abbrev pub decreases-put_bin : goal.decreases-put_bin
decreases-put_bin l = 2 * depth_of (Bin l.op l.x.now l.y.now)

abbrev pub decreases-put_cat : goal.decreases-put_cat
decreases-put_cat l = 2 * depth_of (Cat l.x.now l.y.now)

abbrev pub decreases-put_cut : goal.decreases-put_cut
decreases-put_cut l = 2 * depth_of (Cut l.e.now l.h l.k)

abbrev pub decreases-put_extended : goal.decreases-put_extended
decreases-put_extended l = 2 * depth_of (Ext l.e.now l.n)

abbrev pub decreases-put_sel : goal.decreases-put_sel
decreases-put_sel l = 2 * depth_of (Sel l.c.now l.x.now l.y.now)
