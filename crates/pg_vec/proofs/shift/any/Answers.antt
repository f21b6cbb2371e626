-- One more bit, and at the end all of them.
use Rattle.std.proofs.Common.{arith}
use Rattle.pg_vec.proofs.Loops.{folded_next, folded_all, any_none, any_next}
use Rattle.pg_vec.proofs.shift.any.Goals as goal

pub loop-bit-preserved : goal.loop-bit-preserved
loop-bit-preserved c =
    folded_next _ _ 1 _ _ _ _ c.in_ok-so_far.so_far _ _ c.loop-bit.invariant c.or.ensures.kept c.in_ok-so_far.ensures.there
    (any_next _ c.loop-bit.so_far c.args.x.now c.loop-bit.bit-index c.in_ok-so_far.so_far _ (omega arith) c.in_ok-so_far.ensures.made)

pub returns-clause-made : goal.returns-clause-made
returns-clause-made c =
    folded_all _ _ 1 _ _ _ _ c.loop-bit.invariant (any_none c.loop-bit.circuit.nodes c.loop-bit.so_far c.args.x.now c.loop-bit.bit-index (omega arith))
