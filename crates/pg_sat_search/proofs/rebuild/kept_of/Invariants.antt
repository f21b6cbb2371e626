use Rattle.std.proofs.Common.{◌≡◌, ◌+◌, ◌++◌, ◌≤◌, length}
use Rattle.pg_sat_search.specs.Held.{IsHeld, first_numbers}
use Rattle.pg_sat_search.proofs.rebuild.kept_of.Given as goal

abbrev pub invariant-loop-place : goal.invariant-loop-place
invariant-loop-place l = record {
  held : IsHeld l.cnf.clauses l.cnf.variables l.steps (l.cnf.clauses ++ l.made.clauses.clauses) (first_numbers (length l.cnf.clauses) ++ l.made.numbers.items);
  variables : l.made.clauses.variables ≡ l.cnf.variables;
  few : length l.cnf.clauses + length l.made.clauses.clauses ≤ l.place;
}
