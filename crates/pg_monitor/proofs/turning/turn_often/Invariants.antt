use Rattle.std.proofs.Common.{◌≡◌, ◌-◌, ◌≤◌}
use Rattle.pg_monitor.specs.Current.{Went}
use Rattle.pg_monitor.proofs.turning.turn_often.Given as goal

-- the turns that are not left were done
abbrev pub invariant-loop-left : goal.invariant-loop-left
invariant-loop-left g l = record {
  most : l.left ≤ l.n;
  went : Went l.m.desc (l.n - l.left) (g.H.Hardware.machinery l.initial.hw) (g.H.Hardware.machinery l.hw) l.initial.guest l.guest;
  fixed : g.H.Hardware.fixed l.hw ≡ g.H.Hardware.fixed l.initial.hw;
}

abbrev pub decreases-loop-left : goal.decreases-loop-left
decreases-loop-left g l = l.left
