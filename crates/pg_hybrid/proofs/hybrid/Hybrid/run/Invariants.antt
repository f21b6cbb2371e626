use Rattle.std.proofs.Common.{◌≡◌, take, length}
use Rattle.pg_mon_control.specs.Standing.{Stands}
use Rattle.pg_hybrid.specs.Plans.{HybridFollowed}
use Rattle.pg_hybrid.proofs.hybrid.Hybrid.run.Given as goal

-- the plan so far
abbrev pub invariant-loop-turn : goal.invariant-loop-turn
invariant-loop-turn g l = record {
  machine : l.self.accepted.machine.now ≡ l.initial.self.accepted.machine.now;
  granted : l.self.granted ≡ l.initial.self.granted;
  stands : Stands l.initial.self.accepted.machine.now.desc (g.H.Hardware.machinery l.hw).state l.self.guests l.self.current;
  known : length l.self.guests ≡ length l.initial.self.guests;
  fixed : g.H.Hardware.fixed l.hw ≡ g.H.Hardware.fixed l.initial.hw;
  followed : HybridFollowed l.initial.self.accepted.machine.now.desc (take l.turn-index l.plan) (g.H.Hardware.machinery l.initial.hw) (g.H.Hardware.machinery l.hw) l.initial.self.guests l.self.guests l.initial.self.current l.self.current;
}
