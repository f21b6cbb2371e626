use Rattle.std.proofs.Common.{◌≡◌, ◌≤◌}
use Rattle.pg_hw.specs.Running.{Ran}
use Rattle.pg_out_steps.specs.Counting.{IsBalanced, IsTally}
use Rattle.pg_out_steps.specs.Handling.{AreShares}
use Rattle.pg_out_steps.specs.Traces.{PutsTrace}
use Rattle.pg_out_steps.proofs.tracing.trace.Given as goal

-- so many steps were done, counted and put
abbrev pub invariant-loop-done : goal.invariant-loop-done
invariant-loop-done g l = record {
  tally : IsTally l.m.desc l.done (g.H.Hardware.machinery l.initial.hw).state l.tally;
  shares : AreShares l.telling.monitor l.m.desc l.done (g.H.Hardware.machinery l.initial.hw).state l.tally.shares;
  monitor : l.tracer.monitor ≡ l.telling.monitor;
  balanced : IsBalanced l.tally;
  ran : Ran l.m.desc l.done (g.H.Hardware.machinery l.initial.hw) (g.H.Hardware.machinery l.hw);
  puts : PutsTrace l.telling l.m.desc l.done (g.H.Hardware.machinery l.initial.hw).state (g.S.Sink.written l.initial.out) (g.S.Sink.written l.out);
  later : g.S.Sink.faults l.initial.out ≤ g.S.Sink.faults l.out;
  fixed : g.H.Hardware.fixed l.hw ≡ g.H.Hardware.fixed l.initial.hw;
}
