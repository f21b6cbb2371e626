use Rattle.std.proofs.Common.{◌++◌}
use Rattle.pg_prog_base.specs.Dimacs.{clauses_text}
use Rattle.pg_prog_base.proofs.Texts.{clauses_next}
use Rattle.pg_prog_base.proofs.text.push_clauses.Goals as goal

pub loop-clause-preserved : goal.loop-clause-preserved
loop-clause-preserved c =
    rw (c.in_ok-push-2.ensures.items, c.in_ok-push.ensures.items, c.in_ok-push_literals.ensures, c.lits.ensures.literals)
    (clauses_next c.loop-clause.text.items (c.args.text.now.items ++ clauses_text c.args.clauses.now) c.args.clauses.now c.loop-clause.clause-index c.clause-item.result c.loop-clause-test.true c.clause-item.is c.loop-clause.invariant)
