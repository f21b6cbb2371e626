use Rattle.std.proofs.Common.{Ok}
use Rattle.pg_report.specs.Replays.{PutsOrStarves, replays_before}
use Rattle.pg_report.proofs.replay.put_replay.Given as goal

-- the first findings were put
abbrev pub invariant-loop-place : goal.invariant-loop-place
invariant-loop-place g l =
    PutsOrStarves {T = Unit {0}} (g.S.Sink.written l.initial.out) (g.S.Sink.written l.out) (g.S.Sink.faults l.initial.out) (g.S.Sink.faults l.out) (replays_before l.m.desc l.report.family l.report.marks l.place) (Ok tt)
