use Rattle.std.proofs.Common.{◌≡◌, ◌^◌, ◌<◌}
use Rattle.pg_report.specs.Spans.{span}
use Rattle.pg_report.specs.Summaries.{sum_of}
use Rattle.pg_report.proofs.summary.sum_of.Given as goal

-- the sum of the cells so far
abbrev pub invariant-loop-i : goal.invariant-loop-i
invariant-loop-i g l = record {
  sum : l.sum ≡ sum_of l.w (span l.base l.i (g.H.Hardware.machinery l.hw).state.cells);
  fits : l.sum < 2 ^ l.w;
}
