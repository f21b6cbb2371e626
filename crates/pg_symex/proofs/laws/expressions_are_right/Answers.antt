use Rattle.pg_symex.proofs.ExprLaw.{expr_right}
use Rattle.pg_symex.proofs.laws.expressions_are_right.Goals as goal

pub returns : goal.returns
returns c = expr_right c.args.expr.now
