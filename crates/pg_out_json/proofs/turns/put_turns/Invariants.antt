use Rattle.std.proofs.Common.{◌≡◌, ◌≤◌}
use Rattle.pg_hw.specs.Running.{Ran}
use Rattle.pg_out_steps.specs.Counting.{IsBalanced, IsTally}
use Rattle.pg_out_json.proofs.turns.put_turns.Given as goal

-- so many steps were done and counted
abbrev pub invariant-loop-done : goal.invariant-loop-done
invariant-loop-done g l = record {
  tally : IsTally l.m.desc l.done (g.H.Hardware.machinery l.initial.hw).state l.tally;
  balanced : IsBalanced l.tally;
  ran : Ran l.m.desc l.done (g.H.Hardware.machinery l.initial.hw) (g.H.Hardware.machinery l.hw);
  later : g.S.Sink.faults l.fn.out ≤ g.S.Sink.faults l.out;
  fixed : g.H.Hardware.fixed l.hw ≡ g.H.Hardware.fixed l.initial.hw;
}
