use Rattle.std.proofs.Common.{Ok}
use Rattle.pg_edge.specs.Sink.{Puts}
use Rattle.pg_edge.specs.declared.shelf.Failed.{Failed}
use Rattle.pg_report.specs.Verdicts.{answer_lines}
use Rattle.pg_report.proofs.verdict.put_answers.Given as goal

abbrev pub invariant-loop-instr : goal.invariant-loop-instr
invariant-loop-instr g l =
    Puts {T = Unit {0}} {E = Failed} (g.S.Sink.written l.initial.out) (g.S.Sink.written l.out) (g.S.Sink.faults l.initial.out) (g.S.Sink.faults l.out) (answer_lines l.m.desc l.report.family l.report.marks l.instr) (Ok tt)
