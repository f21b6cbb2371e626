use Rattle.std.proofs.Common.{length}
use Rattle.pg_read.proofs.InstrLemmas.{InstrsSoFar}
use Rattle.pg_read.proofs.instrs.instrs.Given as goal

abbrev pub invariant-loop-alloc : goal.invariant-loop-alloc
invariant-loop-alloc l = InstrsSoFar l.fn.cursor l.cursor l.instrs

abbrev pub decreases-loop-alloc : goal.decreases-loop-alloc
decreases-loop-alloc l = length l.cursor
