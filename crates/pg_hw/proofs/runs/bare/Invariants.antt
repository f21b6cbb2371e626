use Rattle.std.proofs.Common.{◌≡◌, ◌-◌, ◌≤◌}
use Rattle.pg_hw.specs.Running.{Ran}
use Rattle.pg_hw.proofs.runs.bare.Given as goal

-- what is not left was run
abbrev pub invariant-loop-left : goal.invariant-loop-left
invariant-loop-left g l = record {
  most : l.left ≤ l.n;
  ran : Ran l.m.desc (l.n - l.left) (g.H.Hardware.machinery l.initial.hw) (g.H.Hardware.machinery l.hw);
  fixed : g.H.Hardware.fixed l.hw ≡ g.H.Hardware.fixed l.initial.hw;
}

abbrev pub decreases-loop-left : goal.decreases-loop-left
decreases-loop-left g l = l.left
