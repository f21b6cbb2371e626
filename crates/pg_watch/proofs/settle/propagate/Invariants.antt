use Rattle.std.proofs.Common.{◌-◌, length}
use Rattle.pg_watch.specs.Watching.{IsIndex}
use Rattle.pg_watch.specs.Runs.{Runs}
use Rattle.pg_watch.proofs.settle.propagate.Given as goal

abbrev pub invariant-turns : goal.invariant-turns
invariant-turns l = record {
  index : IsIndex l.clauses l.trail l.index.lists l.index.pairs.items;
  runs : Runs l.clauses l.initial.trail l.trail l.initial.index.lists l.index.lists l.initial.index.pairs.items l.index.pairs.items l.initial.head l.head;
}

abbrev pub decreases-turns : goal.decreases-turns
decreases-turns l = l.trail.variables - length l.trail.literals
