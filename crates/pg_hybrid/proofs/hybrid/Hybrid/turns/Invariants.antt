use Rattle.std.proofs.Common.{◌≡◌, ◌-◌, ◌≤◌, length}
use Rattle.pg_mon_control.specs.Standing.{Stands}
use Rattle.pg_hybrid.specs.Turns.{HybridTurned}
use Rattle.pg_hybrid.proofs.hybrid.Hybrid.turns.Given as goal

-- the turns that are not left were done
abbrev pub invariant-loop-left : goal.invariant-loop-left
invariant-loop-left g l = record {
  most : l.left ≤ l.n;
  machine : l.self.accepted.machine.now ≡ l.initial.self.accepted.machine.now;
  granted : l.self.granted ≡ l.initial.self.granted;
  stands : Stands l.initial.self.accepted.machine.now.desc (g.H.Hardware.machinery l.hw).state l.self.guests l.self.current;
  number : length l.self.guests ≡ length l.initial.self.guests;
  turned : HybridTurned l.initial.self.accepted.machine.now.desc l.k (l.n - l.left) (g.H.Hardware.machinery l.initial.hw) (g.H.Hardware.machinery l.hw) l.initial.self.guests l.self.guests l.initial.self.current l.self.current;
  fixed : g.H.Hardware.fixed l.hw ≡ g.H.Hardware.fixed l.initial.hw;
}

abbrev pub decreases-loop-left : goal.decreases-loop-left
decreases-loop-left g l = l.left
