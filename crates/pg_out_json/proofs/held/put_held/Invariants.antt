use Rattle.std.proofs.Common.{◌≤◌}
use Rattle.pg_out_json.proofs.held.put_held.Given as goal

-- the count of puts that failed has not fallen
abbrev pub invariant-loop-at : goal.invariant-loop-at
invariant-loop-at g l = g.S.Sink.faults l.initial.out ≤ g.S.Sink.faults l.out
