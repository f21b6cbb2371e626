use Rattle.std.proofs.Common.{◌≡◌, ℕ, List, length, drop, Option}
use Rattle.pg_hw.specs.Machinery.{Machinery}
use Rattle.pg_mon_control.specs.declared.guest.Guest.{Guest}
use Rattle.pg_mon_control.specs.Standing.{Stands}
use Rattle.pg_monitor.specs.Plans.{Followed}
use Rattle.pg_monitor.proofs.monitor.Monitor.run.Given as goal

-- what follows the rest of the plan from here follows the whole of it from the start
abbrev pub invariant-loop-turn : goal.invariant-loop-turn
invariant-loop-turn g l = record {
  machine : l.self.accepted.machine.now ≡ l.initial.self.accepted.machine.now;
  granted : l.self.granted ≡ l.initial.self.granted;
  stands : Stands l.initial.self.accepted.machine.now.desc (g.H.Hardware.machinery l.hw).state l.self.guests l.self.current;
  known : length l.self.guests ≡ length l.initial.self.guests;
  fixed : g.H.Hardware.fixed l.hw ≡ g.H.Hardware.fixed l.initial.hw;
  goes : (new : Machinery) (gs : List Guest) (current : Option ℕ) →
      Followed l.initial.self.accepted.machine.now.desc (drop l.turn-index l.plan) (g.H.Hardware.machinery l.hw) new l.self.guests gs l.self.current current →
      Followed l.initial.self.accepted.machine.now.desc l.plan (g.H.Hardware.machinery l.initial.hw) new l.initial.self.guests gs l.initial.self.current current;
}
