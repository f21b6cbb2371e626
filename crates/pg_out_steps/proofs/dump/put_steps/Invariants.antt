use Rattle.std.proofs.Common.{◌≡◌, ◌≤◌}
use Rattle.pg_edge.specs.Sink.{Adds}
use Rattle.pg_edge.specs.Told.{BothTold}
use Rattle.pg_hw.specs.Running.{Ran}
use Rattle.pg_out_steps.specs.Dump.{last_sample, steps_text}
use Rattle.pg_out_steps.proofs.dump.put_steps.Given as goal

-- so many steps were done, and put
abbrev pub invariant-loop-done : goal.invariant-loop-done
invariant-loop-done g l = record {
  monitor : l.tracer.monitor ≡ l.fn.monitor;
  last : l.last ≡ last_sample l.fn.monitor l.m.desc l.done (g.H.Hardware.machinery l.initial.hw).state;
  ran : Ran l.m.desc l.done (g.H.Hardware.machinery l.initial.hw) (g.H.Hardware.machinery l.hw);
  put : BothTold (g.S.Sink.written l.initial.out) (g.S.Sink.written l.out) (Adds (steps_text l.fn.monitor l.m.desc l.done (g.H.Hardware.machinery l.initial.hw).state));
  later : g.S.Sink.faults l.initial.out ≤ g.S.Sink.faults l.out;
  fixed : g.H.Hardware.fixed l.hw ≡ g.H.Hardware.fixed l.initial.hw;
}
