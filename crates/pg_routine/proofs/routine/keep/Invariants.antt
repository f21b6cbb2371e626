use Rattle.std.proofs.Common.{All, take, drop}
use Rattle.pg_routine.proofs.KeepLemmas.{IsKept}
use Rattle.pg_routine.proofs.routine.keep.Given as goal

abbrev pub invariant-loop-write : goal.invariant-loop-write
invariant-loop-write g l = record {
  kept : All (IsKept (take l.span.len (drop l.span.from (g.H.Hardware.machinery l.hw).state.cells)) l.writes) (take l.write-index l.writes);
}
