-- One more bit, and at the end all of them.
use Rattle.std.proofs.Common.{length, arith}
use Rattle.pg_vec.proofs.Kept.{there_at, there_later, adds_any, adds_more, adds_rounds, adds_stopped}
use Rattle.pg_vec.proofs.Loops.{built_begin, built_next, built_all, row_none, row_next}
use Rattle.pg_vec.proofs.product.row.Goals as goal

pub loop-bit-preserved : goal.loop-bit-preserved
loop-bit-preserved c =
    let next = built_next _ _ 1 _ _ _ _ c.in_ok-both.both _ _ c.loop-bit.invariant c.and.ensures.kept c.in_ok-both.ensures.there
    (row_next _ c.args.y c.args.x.now c.loop-bit.bit-index c.in_ok-both.both _ (omega arith) c.in_ok-both.ensures.made) in
    rw c.in_ok-push.ensures.items next

pub returns-clause-made : goal.returns-clause-made
returns-clause-made c =
    built_all _ _ 1 _ _ _ _ c.loop-bit.invariant (row_none c.loop-bit.circuit.nodes c.args.y c.args.x.now c.loop-bit.bit-index (omega arith))

pub returns-clause-kept : goal.returns-clause-kept
returns-clause-kept c = adds_more _ _ _ _ (adds_rounds _ _ c.loop-bit.bit-index (length c.args.x.now) 1 c.loop-bit.invariant.kept (omega arith)) (omega arith)

pub returns-in_err-bits-clause-kept : goal.returns-in_err-bits-clause-kept
returns-in_err-bits-clause-kept c = adds_any _ _

pub returns-in_err-both-clause-kept : goal.returns-in_err-both-clause-kept
returns-in_err-both-clause-kept c = adds_more _ _ _ _ (adds_stopped _ _ _ c.loop-bit.bit-index (length c.args.x.now) 1 1 c.loop-bit.invariant.kept c.and.ensures.kept (omega arith) (omega arith)) (omega arith)

pub returns-in_err-push-clause-kept : goal.returns-in_err-push-clause-kept
returns-in_err-push-clause-kept c = adds_more _ _ _ _ (adds_stopped _ _ _ c.loop-bit.bit-index (length c.args.x.now) 1 1 c.loop-bit.invariant.kept c.and.ensures.kept (omega arith) (omega arith)) (omega arith)

pub loop-bit-init : goal.loop-bit-init
loop-bit-init c = built_begin _ _ 1 c.in_ok-bits.bits.items c.in_ok-bits.ensures.items

pub and-requires-clause-left : goal.and-requires-clause-left
and-requires-clause-left c = there_later _ _ c.args.y c.loop-bit.invariant.kept.front c.requires.left

pub and-requires-clause-right : goal.and-requires-clause-right
and-requires-clause-right c = there_at _ _ c.args.x.now c.loop-bit.bit-index c.loop-bit.invariant.kept.front c.requires.right c.loop-bit-test.true
