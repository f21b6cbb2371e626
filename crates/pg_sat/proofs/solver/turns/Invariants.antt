use Rattle.pg_sat.specs.Turns.{IsSearching, work_left}
use Rattle.pg_sat.proofs.solver.turns.Given as goal

abbrev pub invariant-turns : goal.invariant-turns
invariant-turns g l = IsSearching l.cnf.clauses l.cnf.variables l.budget l.watches l.steps.items l.fix

abbrev pub decreases-turns : goal.decreases-turns
decreases-turns g l = work_left l.cnf.variables l.budget l.watches l.steps.items
