use Rattle.std.proofs.Common.{◌≡◌, ◌-◌, ◌≤◌}
use Rattle.pg_hw.specs.Bursts.{BottomRises}
use Rattle.pg_hw.specs.Running.{InBurst}
use Rattle.pg_monitor.specs.Monitors.{desc_of}
use Rattle.pg_nest.specs.Presenting.{first_state, Presents}
use Rattle.pg_nest.proofs.bursting.burst.Given as goal

-- the burst goes on from what was done
abbrev pub invariant-loop-all : goal.invariant-loop-all
invariant-loop-all g l = record {
  within : l.all.done ≤ l.most;
  run : InBurst (desc_of l.initial.monitor) l.most l.all.done l.all.untrapped (first_state (g.H.Hardware.machinery l.initial.hw).state.cells l.initial.monitor.guests) (first_state (g.H.Hardware.machinery l.hw).state.cells l.monitor.guests);
  bottom : BottomRises (desc_of l.initial.monitor) l.all.done (first_state (g.H.Hardware.machinery l.initial.hw).state.cells l.initial.monitor.guests) (g.H.Hardware.machinery l.initial.hw).bottom (g.H.Hardware.machinery l.hw).bottom;
  presents : Presents (desc_of l.initial.monitor) (g.H.Hardware.machinery l.hw).state l.monitor.guests l.monitor.current;
  machine : l.monitor.accepted.machine.now ≡ l.initial.monitor.accepted.machine.now;
  fixed : g.H.Hardware.fixed l.hw ≡ g.H.Hardware.fixed l.initial.hw;
}

abbrev pub decreases-loop-all : goal.decreases-loop-all
decreases-loop-all g l = l.most - l.all.done
