use Rattle.std.proofs.Common.{◌+◌, ◌<◌, ◌≤◌, length, take}
use Rattle.pg_sat.specs.Trace.{IsTraced}
use Rattle.pg_sat.proofs.trace.trace_to_lone.Given as goal

abbrev pub invariant-loop-at : goal.invariant-loop-at
invariant-loop-at l = record {
  from : l.last ≤ l.at;
  within : l.at < length l.watches.trail.literals;
  traced : IsTraced l.variables l.watches.clauses (take (l.at + 1) l.watches.trail.literals) l.trace.flags l.trace.hints.items;
}

abbrev pub decreases-loop-at : goal.decreases-loop-at
decreases-loop-at l = l.at
