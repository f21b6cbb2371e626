use Rattle.std.proofs.Common.{◌+◌, ◌*◌}
use Rattle.pg_ast.specs.declared.tree.Expr.TheVariants.{Load, Not, Bin, Cat, Cut, Ext, Sext, Sel}
use Rattle.pg_lang_valid.specs.Limits.{expr_tally}
use Rattle.pg_symex.proofs.exprs.+exprs.Given as goal

-- a part has fewer expressions than the whole, and a form stands below the call that asks for it
abbrev pub decreases-expr : goal.decreases-expr
decreases-expr l = 2 * (expr_tally l.e.now).expressions + 1

abbrev pub decreases-load : goal.decreases-load
decreases-load l = 2 * (expr_tally (Load l.x.now)).expressions

abbrev pub decreases-not : goal.decreases-not
decreases-not l = 2 * (expr_tally (Not l.x.now)).expressions

abbrev pub decreases-bin : goal.decreases-bin
decreases-bin l = 2 * (expr_tally (Bin l.op l.x.now l.y.now)).expressions

abbrev pub decreases-cat : goal.decreases-cat
decreases-cat l = 2 * (expr_tally (Cat l.x.now l.y.now)).expressions

abbrev pub decreases-cut : goal.decreases-cut
decreases-cut l = 2 * (expr_tally (Cut l.x.now l.high l.low)).expressions

abbrev pub decreases-ext : goal.decreases-ext
decreases-ext l = 2 * (expr_tally (Ext l.x.now l.to)).expressions

abbrev pub decreases-sext : goal.decreases-sext
decreases-sext l = 2 * (expr_tally (Sext l.x.now l.to)).expressions

abbrev pub decreases-sel : goal.decreases-sel
decreases-sel l = 2 * (expr_tally (Sel l.test.now l.x.now l.y.now)).expressions
