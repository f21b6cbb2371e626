use Rattle.pg_symex.proofs.StmtLaw.{stmt_right}
use Rattle.pg_symex.proofs.laws.statements_are_right.Goals as goal

pub returns : goal.returns
returns c = stmt_right c.args.stmt.now
