use Rattle.std.proofs.Common.{◌-◌}
use Rattle.pg_watch.specs.Watching.{IsIndex}
use Rattle.pg_watch.specs.Runs.{Runs}
use Rattle.pg_watch.proofs.queue.run_queue.Given as goal

abbrev pub invariant-loop-head : goal.invariant-loop-head
invariant-loop-head l = record {
  index : IsIndex l.clauses l.trail l.index.lists l.index.pairs.items;
  runs : Runs l.clauses l.initial.trail l.trail l.initial.index.lists l.index.lists l.initial.index.pairs.items l.index.pairs.items l.initial.head l.head;
}

abbrev pub decreases-loop-head : goal.decreases-loop-head
decreases-loop-head l = l.trail.variables - l.head
