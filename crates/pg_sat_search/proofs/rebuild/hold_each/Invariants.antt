use Rattle.std.proofs.Common.{◌≡◌, ◌++◌, take}
use Rattle.pg_sat_search.proofs.rebuild.hold_each.Given as goal

abbrev pub invariant-loop-place : goal.invariant-loop-place
invariant-loop-place l = record {
  clauses : l.held.watches.clauses ≡ l.initial.held.watches.clauses ++ take l.place l.learned.clauses.clauses;
  numbers : l.held.numbers.items ≡ l.initial.held.numbers.items ++ take l.place l.learned.numbers.items;
  trail : l.held.watches.trail ≡ l.initial.held.watches.trail;
}
