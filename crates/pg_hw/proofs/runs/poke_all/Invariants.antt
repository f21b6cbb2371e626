use Rattle.std.proofs.Common.{◌≡◌}
use Rattle.pg_hw.specs.Running.{Poked}
use Rattle.pg_hw.proofs.runs.poke_all.Given as goal

-- the cells before this one were poked
abbrev pub invariant-loop-at : goal.invariant-loop-at
invariant-loop-at g l = record {
  poked : Poked l.image l.at (g.H.Hardware.machinery l.initial.hw) (g.H.Hardware.machinery l.hw);
  fixed : g.H.Hardware.fixed l.hw ≡ g.H.Hardware.fixed l.initial.hw;
}
