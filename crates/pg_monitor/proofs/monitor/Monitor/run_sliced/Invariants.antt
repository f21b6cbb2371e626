use Rattle.std.proofs.Common.{◌≡◌, length}
use Rattle.pg_mon_control.specs.Standing.{Stands}
use Rattle.pg_mon_control.specs.Schedules.{rounds_of}
use Rattle.pg_monitor.specs.Schedules.{Begun}
use Rattle.pg_monitor.proofs.monitor.Monitor.run_sliced.Given as goal

-- the rounds so far
abbrev pub invariant-loop : goal.invariant-loop
invariant-loop g l = record {
  machine : l.self.accepted.machine.now ≡ l.initial.self.accepted.machine.now;
  granted : l.self.granted ≡ l.initial.self.granted;
  stands : Stands l.initial.self.accepted.machine.now.desc (g.H.Hardware.machinery l.hw).state l.self.guests l.self.current;
  number : length l.self.guests ≡ length l.initial.self.guests;
  fixed : g.H.Hardware.fixed l.hw ≡ g.H.Hardware.fixed l.initial.hw;
  begun : Begun l.initial.self.accepted.machine.now.desc (rounds_of (length l.initial.self.guests) l.slice l.counter)
      (g.H.Hardware.machinery l.initial.hw) (g.H.Hardware.machinery l.hw) l.initial.self.guests l.self.guests l.initial.self.current l.self.current;
}
