use Rattle.pg_sat.specs.Turns.{work_left}
use Rattle.pg_sat_search.specs.Turns.{IsSearching}
use Rattle.pg_sat_search.proofs.search.turns.Given as goal

abbrev pub invariant-turns : goal.invariant-turns
invariant-turns g l = IsSearching l.cnf.clauses l.cnf.variables l.budget l.held.watches l.held.numbers.items l.steps.items l.fix

abbrev pub decreases-turns : goal.decreases-turns
decreases-turns g l = work_left l.cnf.variables l.budget l.held.watches l.steps.items
