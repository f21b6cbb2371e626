use Rattle.pg_prog_base.specs.Dimacs.{greatest_variable}
use Rattle.pg_prog_base.proofs.Texts.{greatest_variable_next}
use Rattle.pg_prog_base.proofs.text.greatest_variable.Goals as goal

pub loop-clause-preserved : goal.loop-clause-preserved
loop-clause-preserved c =
    rw (c.max-most.ensures, c.greatest_in.ensures, c.lits.ensures.literals)
    (greatest_variable_next c.loop-clause.most (greatest_variable c.args.clauses.now) c.args.clauses.now c.loop-clause.clause-index c.clause-item.result c.loop-clause-test.true c.clause-item.is c.loop-clause.invariant)
