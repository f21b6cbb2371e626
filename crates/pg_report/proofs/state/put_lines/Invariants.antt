use Rattle.std.proofs.Common.{Ok}
use Rattle.pg_edge.specs.Sink.{Puts}
use Rattle.pg_edge.specs.declared.shelf.Failed.{Failed}
use Rattle.pg_image.specs.Lines.{lines_before}
use Rattle.pg_report.specs.Spans.{span}
use Rattle.pg_report.proofs.state.put_lines.Given as goal

abbrev pub invariant-loop-k : goal.invariant-loop-k
invariant-loop-k g l =
    Puts {T = Unit {0}} {E = Failed} (g.S.Sink.written l.initial.out) (g.S.Sink.written l.out) (g.S.Sink.faults l.initial.out) (g.S.Sink.faults l.out) (lines_before l.shape.w l.k (span l.base l.size (g.H.Hardware.machinery l.hw).state.cells)) (Ok tt)
