use Rattle.std.proofs.Common.{take, Ok}
use Rattle.pg_edge.specs.Sink.{Puts}
use Rattle.pg_edge.specs.declared.shelf.Failed.{Failed}
use Rattle.pg_mon_control.specs.Guests.{virtuals}
use Rattle.pg_report.specs.Summaries.{summaries}
use Rattle.pg_run_guests.proofs.summing.put_all.Given as goal

-- the lines of the guests before this one were put
abbrev pub invariant-loop-k : goal.invariant-loop-k
invariant-loop-k g l = record {
  put : Puts {T = Unit {0}} {E = Failed} (g.S.Sink.written l.initial.out) (g.S.Sink.written l.out) (g.S.Sink.faults l.initial.out) (g.S.Sink.faults l.out)
      (summaries l.machine.desc.word 0 (take l.k (virtuals (g.H.Hardware.machinery l.hw).state.cells l.guests))) (Ok tt);
}
