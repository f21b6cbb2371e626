use Rattle.std.proofs.Common.{Ok}
use Rattle.pg_edge.specs.Sink.{Puts}
use Rattle.pg_edge.specs.declared.shelf.Failed.{Failed}
use Rattle.pg_report.specs.Spans.{span}
use Rattle.pg_run_still.specs.Views.{bytes_of}
use Rattle.pg_run_still.proofs.viewing.put_each.Given as goal

-- the bytes of the cells before this one were put
abbrev pub invariant-loop-i : goal.invariant-loop-i
invariant-loop-i g l =
    Puts {T = Unit {0}} {E = Failed} (g.S.Sink.written l.initial.out) (g.S.Sink.written l.out) (g.S.Sink.faults l.initial.out) (g.S.Sink.faults l.out)
    (bytes_of l.count.count (span l.part.base l.i (g.H.Hardware.machinery l.hw).state.cells)) (Ok tt)
