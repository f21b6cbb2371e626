-- One more bit, and at the end all of them.
use Rattle.std.proofs.Common.{◌+◌, length, arith}
use Rattle.std.proofs.lemmas.List.{take_rest}
use Rattle.pg_vec.proofs.Loops.{built_begin, built_next, built_all, sum_none, sum_next}
use Rattle.pg_vec.proofs.Kept.{front_then, there_at, adds_any, adds_rounds, adds_stopped, adds_then, there_later}
use Rattle.pg_vec.proofs.sum.sum.Goals as goal

pub loop-i-preserved : goal.loop-i-preserved
loop-i-preserved c =
    let kept = adds_then _ _ _ 2 3 (adds_then _ _ _ 1 1 c.xor.ensures.kept c.xor-in-loop-i.ensures.kept) c.carry_into.ensures.kept in
    let next = built_next _ _ 5 _ _ _ _ c.in_ok-bit.bit _ _ c.loop-i.invariant.0 kept (there_later _ _ c.in_ok-bit.bit c.carry_into.ensures.kept.front c.in_ok-bit.ensures.there)
    (sum_next _ c.loop-i.carry c.args.x.now c.args.y.now c.loop-i.i c.in_ok-half.half c.in_ok-bit.bit c.in_ok-carry.carry _ _ _ (omega arith) (omega arith)
    c.in_ok-half.ensures.made c.in_ok-bit.ensures.made (rw (take_rest c.args.x.now (c.loop-i.i + 1)) at c.in_ok-carry.ensures.made)) in
    (rw c.in_ok-push.ensures.items next, c.in_ok-carry.ensures.there)

pub returns-clause-made : goal.returns-clause-made
returns-clause-made c =
    built_all _ _ 5 _ _ _ _ c.loop-i.invariant.0 (sum_none c.loop-i.circuit.nodes c.loop-i.carry c.args.x.now c.args.y.now c.loop-i.i (omega arith))

pub returns-clause-kept : goal.returns-clause-kept
returns-clause-kept c = adds_rounds _ _ c.loop-i.i (length c.args.x.now) 5 c.loop-i.invariant.0.kept (omega arith)

pub returns-in_err-bits-clause-kept : goal.returns-in_err-bits-clause-kept
returns-in_err-bits-clause-kept c = adds_any _ _

pub returns-in_err-half-clause-kept : goal.returns-in_err-half-clause-kept
returns-in_err-half-clause-kept c = adds_stopped _ _ _ c.loop-i.i (length c.args.x.now) 5 1 c.loop-i.invariant.0.kept c.xor.ensures.kept (omega arith) (omega arith)

pub returns-in_err-bit-clause-kept : goal.returns-in_err-bit-clause-kept
returns-in_err-bit-clause-kept c =
    adds_stopped _ _ _ c.loop-i.i (length c.args.x.now) 5 2 c.loop-i.invariant.0.kept (adds_then _ _ _ 1 1 c.xor.ensures.kept c.xor-in-loop-i.ensures.kept) (omega arith) (omega arith)

pub returns-in_err-carry-clause-kept : goal.returns-in_err-carry-clause-kept
returns-in_err-carry-clause-kept c =
    let bit = adds_then _ _ _ 1 1 c.xor.ensures.kept c.xor-in-loop-i.ensures.kept in
    adds_stopped _ _ _ c.loop-i.i (length c.args.x.now) 5 5 c.loop-i.invariant.0.kept (adds_then _ _ _ 2 3 bit c.carry_into.ensures.kept) (omega arith) (omega arith)

pub returns-in_err-push-clause-kept : goal.returns-in_err-push-clause-kept
returns-in_err-push-clause-kept c =
    let bit = adds_then _ _ _ 1 1 c.xor.ensures.kept c.xor-in-loop-i.ensures.kept in
    adds_stopped _ _ _ c.loop-i.i (length c.args.x.now) 5 5 c.loop-i.invariant.0.kept (adds_then _ _ _ 2 3 bit c.carry_into.ensures.kept) (omega arith) (omega arith)

pub loop-i-init : goal.loop-i-init
loop-i-init c = (built_begin _ _ 5 c.in_ok-bits.bits.items c.in_ok-bits.ensures.items, c.requires.carry)

pub xor-requires-clause-left : goal.xor-requires-clause-left
xor-requires-clause-left c = there_at _ _ c.args.x.now c.loop-i.i c.loop-i.invariant.0.kept.front c.requires.left c.loop-i-test.true

pub xor-requires-clause-right : goal.xor-requires-clause-right
xor-requires-clause-right c = there_at _ _ c.args.y.now c.loop-i.i c.loop-i.invariant.0.kept.front c.requires.right (omega arith)

pub xor-requires-in-loop-i-clause-left : goal.xor-requires-in-loop-i-clause-left
xor-requires-in-loop-i-clause-left c = c.in_ok-half.ensures.there

pub xor-requires-in-loop-i-clause-right : goal.xor-requires-in-loop-i-clause-right
xor-requires-in-loop-i-clause-right c = there_later _ _ c.loop-i.carry c.xor.ensures.kept.front c.loop-i.invariant.1

pub carry_into-requires-clause-left : goal.carry_into-requires-clause-left
carry_into-requires-clause-left c =
    let bit = adds_then _ _ _ 1 1 c.xor.ensures.kept c.xor-in-loop-i.ensures.kept in
    there_at _ _ c.args.x.now c.loop-i.i (front_then _ _ _ c.loop-i.invariant.0.kept.front bit.front) c.requires.left c.loop-i-test.true

pub carry_into-requires-clause-right : goal.carry_into-requires-clause-right
carry_into-requires-clause-right c =
    let bit = adds_then _ _ _ 1 1 c.xor.ensures.kept c.xor-in-loop-i.ensures.kept in
    there_at _ _ c.args.y.now c.loop-i.i (front_then _ _ _ c.loop-i.invariant.0.kept.front bit.front) c.requires.right (omega arith)

pub carry_into-requires-clause-half : goal.carry_into-requires-clause-half
carry_into-requires-clause-half c = there_later _ _ c.in_ok-half.half c.xor-in-loop-i.ensures.kept.front c.in_ok-half.ensures.there

pub carry_into-requires-clause-carry : goal.carry_into-requires-clause-carry
carry_into-requires-clause-carry c =
    let bit = adds_then _ _ _ 1 1 c.xor.ensures.kept c.xor-in-loop-i.ensures.kept in
    there_later _ _ c.loop-i.carry bit.front c.loop-i.invariant.1
