use Rattle.std.proofs.Common.{◌≤◌, pos, neg_ℤ, slice_index_or}
use Rattle.pg_sat.specs.Trace.{IsThin, AreFewer}
use Rattle.pg_sat.proofs.shrink.shrink.Given as goal

abbrev pub invariant-loop-at : goal.invariant-loop-at
invariant-loop-at l = record {
  below : l.at ≤ l.from;
  thin : IsThin l.variables l.watches.clauses l.watches.trail.literals l.at l.trace.flags l.trace.hints.items;
  fewer : AreFewer l.initial.trace.flags l.trace.flags (neg_ℤ (slice_index_or l.watches.trail.literals l.from (pos 0)));
}

abbrev pub decreases-loop-at : goal.decreases-loop-at
decreases-loop-at l = l.at
