use Rattle.std.proofs.Common.{◌≡◌, ◌++◌, [], drop, false}
use Rattle.pg_cnf.specs.Literals.{AreClauses}
use Rattle.pg_watch.proofs.watches.Watches.new.Given as goal

abbrev pub invariant-loop-clause : goal.invariant-loop-clause
invariant-loop-clause l = record {
  clauses : l.watches.clauses ++ drop l.clause-index l.clause-items ≡ l.clause-items;
  left : AreClauses l.watches.trail.variables (drop l.clause-index l.clause-items);
  variables : l.watches.trail.variables ≡ l.cnf.variables;
  literals : l.watches.trail.literals ≡ [];
  reasons : l.watches.trail.reasons ≡ [];
  quiet : l.watches.quiet ≡ false;
}
