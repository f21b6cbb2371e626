use Rattle.std.proofs.Common.{Ok}
use Rattle.pg_edge.specs.Sink.{Puts}
use Rattle.pg_edge.specs.declared.shelf.Failed.{Failed}
use Rattle.pg_report.specs.Spans.{span}
use Rattle.pg_run_still.specs.Views.{rows_from}
use Rattle.pg_run_still.proofs.viewing.put_rows.Given as goal

-- the lines before this one were put
abbrev pub invariant-loop-k : goal.invariant-loop-k
invariant-loop-k g l =
    Puts {T = Unit {0}} {E = Failed} (g.S.Sink.written l.initial.out) (g.S.Sink.written l.out) (g.S.Sink.faults l.initial.out) (g.S.Sink.faults l.out)
    (rows_from l.shape.w l.part.first l.k (span l.part.base l.part.size (g.H.Hardware.machinery l.hw).state.cells)) (Ok tt)
