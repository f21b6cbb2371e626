-- One more bit, and at the end all of them.
use Rattle.std.proofs.Common.{arith}
use Rattle.pg_vec.proofs.Kept.{adds_then}
use Rattle.pg_vec.proofs.Loops.{folded_next, folded_all, carry_out_none, carry_out_next}
use Rattle.pg_vec.proofs.compare.last_carry.Goals as goal

pub loop-i-preserved : goal.loop-i-preserved
loop-i-preserved c =
    folded_next _ _ 4 _ _ _ _ c.in_ok-carry.carry _ _ c.loop-i.invariant (adds_then _ _ _ 1 3 c.xor.ensures.kept c.carry_out.ensures.kept) c.in_ok-carry.ensures.there
    (carry_out_next _ c.loop-i.carry c.args.x.now c.args.y.now c.loop-i.i c.in_ok-half.half c.in_ok-carry.carry _ _ (omega arith) (omega arith)
    c.in_ok-half.ensures.made c.in_ok-carry.ensures.made)

pub returns-clause-made : goal.returns-clause-made
returns-clause-made c =
    folded_all _ _ 4 _ _ _ _ c.loop-i.invariant (carry_out_none c.loop-i.circuit.nodes c.loop-i.carry c.args.x.now c.args.y.now c.loop-i.i (omega arith))
