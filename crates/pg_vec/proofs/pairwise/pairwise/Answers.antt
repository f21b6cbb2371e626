-- One more bit, and at the end all of them.
use Rattle.std.proofs.Common.{length, arith}
use Rattle.pg_vec.specs.Pairing.{pair_made}
use Rattle.pg_vec.proofs.Kept.{there_at, adds_any, adds_rounds, adds_stopped}
use Rattle.pg_vec.proofs.Loops.{built_begin, built_next, built_all, each_none, each_next}
use Rattle.pg_vec.proofs.pairwise.pairwise.Goals as goal

pub loop-i-preserved : goal.loop-i-preserved
loop-i-preserved c =
    let next = built_next _ _ 3 _ _ _ _ c.in_ok-bit.bit _ _ c.loop-i.invariant c.pair.ensures.kept c.in_ok-bit.ensures.there
    (each_next (pair_made c.args.make) _ c.args.x.now c.args.y.now c.loop-i.i c.in_ok-bit.bit _ (omega arith) (omega arith) c.in_ok-bit.ensures.made) in
    rw c.in_ok-push.ensures.items next

pub returns-clause-made : goal.returns-clause-made
returns-clause-made c =
    built_all _ _ 3 _ _ _ _ c.loop-i.invariant (each_none (pair_made c.args.make) c.loop-i.circuit.nodes c.args.x.now c.args.y.now c.loop-i.i (omega arith))

pub returns-clause-kept : goal.returns-clause-kept
returns-clause-kept c = adds_rounds _ _ c.loop-i.i (length c.args.x.now) 3 c.loop-i.invariant.kept (omega arith)

pub returns-in_err-bits-clause-kept : goal.returns-in_err-bits-clause-kept
returns-in_err-bits-clause-kept c = adds_any _ _

pub returns-in_err-bit-clause-kept : goal.returns-in_err-bit-clause-kept
returns-in_err-bit-clause-kept c = adds_stopped _ _ _ c.loop-i.i (length c.args.x.now) 3 3 c.loop-i.invariant.kept c.pair.ensures.kept (omega arith) (omega arith)

pub returns-in_err-push-clause-kept : goal.returns-in_err-push-clause-kept
returns-in_err-push-clause-kept c = adds_stopped _ _ _ c.loop-i.i (length c.args.x.now) 3 3 c.loop-i.invariant.kept c.pair.ensures.kept (omega arith) (omega arith)

pub loop-i-init : goal.loop-i-init
loop-i-init c = built_begin _ _ 3 c.in_ok-bits.bits.items c.in_ok-bits.ensures.items

pub pair-requires-clause-left : goal.pair-requires-clause-left
pair-requires-clause-left c = there_at _ _ c.args.x.now c.loop-i.i c.loop-i.invariant.kept.front c.requires.left c.loop-i-test.true

pub pair-requires-clause-right : goal.pair-requires-clause-right
pair-requires-clause-right c = there_at _ _ c.args.y.now c.loop-i.i c.loop-i.invariant.kept.front c.requires.right (omega arith)
