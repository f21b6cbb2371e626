use Rattle.std.proofs.Common.{◌≡◌, ◌-◌, ◌≤◌}
use Rattle.pg_mon_control.specs.Guests.{virtual}
use Rattle.pg_monitor.specs.Current.{Went}
use Rattle.pg_monitor.specs.Settling.{TellsFirst}
use Rattle.pg_monitor.proofs.settling.settle_often.Given as goal

-- the turns that are not left were done, and it is told of them
abbrev pub invariant-loop-left : goal.invariant-loop-left
invariant-loop-left g l = record {
  most : l.left ≤ l.n;
  went : Went l.m.desc (l.n - l.left) (g.H.Hardware.machinery l.initial.hw) (g.H.Hardware.machinery l.hw) l.initial.guest l.guest;
  first : TellsFirst l.m.desc (l.n - l.left) (virtual (g.H.Hardware.machinery l.initial.hw).state.cells l.initial.guest) l.still;
  fixed : g.H.Hardware.fixed l.hw ≡ g.H.Hardware.fixed l.initial.hw;
}

abbrev pub decreases-loop-left : goal.decreases-loop-left
decreases-loop-left g l = l.left
