-- The nodes are those of the definition, and its law says what they are worth.
use Rattle.pg_vec.proofs.OpLaws.{shl_step, shl_worth}
use Rattle.pg_vec.proofs.ops.shl.Goals as goal

pub returns-clause-made : goal.returns-clause-made
returns-clause-made c = shl_step _ c.as_slice.result.now c.args.x.now c.as_slice-2.result.now c.args.y.now c.in_ok-bits.bits.items c.from_vec.result _ c.as_slice.ensures.gates c.as_slice-2.ensures.gates c.in_ok-bits.ensures.made c.from_vec.ensures

pub returns-clause-worth : goal.returns-clause-worth
returns-clause-worth c = shl_worth _ _ c.args.x.now c.args.y.now c.args.circuit.now.circuit c.requires.left c.requires.right c.as_slice.ensures.width c.as_slice-2.ensures.width (returns-clause-made c)
