use Rattle.pg_sat.proofs.solver.search.Goals as goal

pub returns : goal.returns
returns g c = c.answer_of.ensures c.args.cnf.now.clauses c.args.cnf.now.variables c.args.budget c.in_ok-ended.ensures
