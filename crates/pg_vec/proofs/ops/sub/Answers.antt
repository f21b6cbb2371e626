-- The nodes are those of the definition, and its law says what they are worth.
use Rattle.pg_vec.proofs.OpLaws.{flip_there, sub_step, sub_worth}
use Rattle.pg_vec.proofs.ops.sub.Goals as goal

pub sum-requires-clause-right : goal.sum-requires-clause-right
sum-requires-clause-right c = flip_there _ c.as_slice.result.now c.args.y.now c.in_ok-flipped.flipped.items _ c.requires.right c.as_slice.ensures.gates c.in_ok-flipped.ensures c.as_slice-3.ensures.value

pub returns-clause-made : goal.returns-clause-made
returns-clause-made c = sub_step _ c.constant-one.result c.as_slice-2.result.now c.args.x.now c.in_ok-flipped.flipped.items c.as_slice.result.now c.as_slice-3.result.now c.args.y.now c.in_ok-bits.bits.items c.from_vec.result _
    c.constant-one.ensures c.as_slice-2.ensures.gates c.as_slice.ensures.gates c.in_ok-flipped.ensures c.as_slice-3.ensures.value c.in_ok-bits.ensures.made c.from_vec.ensures

pub returns-clause-worth : goal.returns-clause-worth
returns-clause-worth c = sub_worth _ _ c.args.x.now c.args.y.now c.args.circuit.now.circuit c.requires.left c.requires.right c.requires.same_width c.as_slice-2.ensures.width c.as_slice.ensures.width (returns-clause-made c)
