use Rattle.std.proofs.Common.{◌≡◌}
use Rattle.pg_routine.proofs.StoreLemmas.{Storing}
use Rattle.pg_routine.proofs.routine.store.Given as goal

-- the stores before this one were made
abbrev pub invariant-loop-write : goal.invariant-loop-write
invariant-loop-write g l = record {
  stores : Storing l.span.from l.span.len l.writes l.write-index (g.H.Hardware.machinery l.initial.hw) (g.H.Hardware.machinery l.hw);
  fixed : g.H.Hardware.fixed l.hw ≡ g.H.Hardware.fixed l.initial.hw;
}
