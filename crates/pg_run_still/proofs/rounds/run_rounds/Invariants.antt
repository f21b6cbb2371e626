use Rattle.std.proofs.Common.{◌≡◌, ◌≤◌, ◌-◌, length}
use Rattle.pg_mon_control.specs.Standing.{Stands}
use Rattle.pg_run_still.proofs.GoingLemmas.{Going}
use Rattle.pg_run_still.proofs.rounds.run_rounds.Given as goal

-- the rounds so far
abbrev pub invariant-loop-done : goal.invariant-loop-done
invariant-loop-done g l = record {
  machine : l.monitor.accepted.machine.now ≡ l.initial.monitor.accepted.machine.now;
  granted : l.monitor.granted ≡ l.initial.monitor.granted;
  stands : Stands l.initial.monitor.accepted.machine.now.desc (g.H.Hardware.machinery l.hw).state l.monitor.guests l.monitor.current;
  number : length l.monitor.guests ≡ length l.initial.monitor.guests;
  fixed : g.H.Hardware.fixed l.hw ≡ g.H.Hardware.fixed l.initial.hw;
  most : l.done ≤ l.steps;
  going : Going l.initial.monitor.accepted.machine.now.desc l.slice l.steps l.done (g.H.Hardware.machinery l.initial.hw) (g.H.Hardware.machinery l.hw)
      l.initial.monitor.guests l.monitor.guests l.initial.monitor.current l.monitor.current l.rests.items;
}

abbrev pub decreases-loop-done : goal.decreases-loop-done
decreases-loop-done g l = l.steps - l.done
