-- One more row, and at the end all of them.
use Rattle.std.proofs.Common.{◌≡◌, ◌<◌, ◌*◌, length, replicate, arith, sym, ap, subst, ◌∙◌, List}
use Rattle.pg_circuit.specs.declared.node.Gate.{Gate}
use Rattle.pg_vec.specs.There.{AreThere}
use Rattle.pg_vec.specs.Strings.{moved_up, zeros}
use Rattle.pg_vec.proofs.Kept.{there_at, adds_any, adds_rounds, adds_stopped, adds_then, adds_more, all_there_later}
use Rattle.pg_vec.proofs.Strings.{length-moved_up, moved_up-there}
use Rattle.pg_vec.proofs.Loops.{staged_next, staged_all, rows_begin, rows_none, rows_next}
use Rattle.pg_vec.proofs.product.product.Goals as goal

pub loop-bit-init : goal.loop-bit-init
loop-bit-init c =
    let x = c.args.x.now in
    let total : c.in_ok-total.total.items ≡ zeros (length x) = c.in_ok-total.ensures.items_if_clones_equal (λ y h. h) ∙ ap (λ g. replicate (length x) g) c.constant-zero.ensures in (
      rows_begin _ (length x * 6) x c.args.y.now c.in_ok-total.total.items c.in_ok-moved.moved.items c.args.circuit.now.circuit.begun total c.in_ok-moved.ensures.items,
      subst (λ (xs : List Gate). AreThere (length c.args.circuit.now.nodes) xs) (sym c.in_ok-moved.ensures.items) c.requires.left,
      ap length c.in_ok-moved.ensures.items,
    )

pub loop-bit-preserved : goal.loop-bit-preserved
loop-bit-preserved c =
    let moved = c.loop-bit.moved.items in
    let row_wide = ap length c.as_slice.ensures.value ∙ c.loop-bit.invariant.2 in
    let sum_wide = ap length c.as_slice-in-loop-bit.ensures.value ∙ c.loop-bit.invariant.0.wide in
    let kept = adds_more _ _ _ (length c.args.x.now * 6) (adds_then _ _ _ _ _ c.row.ensures.kept c.sum.ensures.kept) (omega (arith, row_wide, sum_wide)) in
    let next : c.in_ok-moved-2.moved.items ≡ moved_up 1 moved = c.in_ok-moved-2.ensures ∙ ap (moved_up 1) c.as_slice-in-loop-bit-3.ensures.value in (
      staged_next _ _ (length c.args.x.now * 6) _ _ _ _ _ c.in_ok-total-2.total.items _ _ c.loop-bit.invariant.0 kept c.in_ok-total-2.ensures.there
          (c.in_ok-total-2.ensures.width ∙ ap length c.as_slice-in-loop-bit.ensures.value ∙ c.loop-bit.invariant.0.wide)
          (rows_next _ c.loop-bit.total.items moved c.args.y.now c.loop-bit.bit-index c.constant-zero.result c.as_slice.result.now c.in_ok-addend.addend.items
          c.as_slice-in-loop-bit.result.now c.as_slice-in-loop-bit-2.result.now c.in_ok-total-2.total.items c.in_ok-moved-2.moved.items _ _ (omega arith)
          c.constant-zero.ensures c.as_slice.ensures.value c.in_ok-addend.ensures.made c.as_slice-in-loop-bit.ensures.value c.as_slice-in-loop-bit-2.ensures.value
          c.in_ok-total-2.ensures.made next),
      subst (λ (xs : List Gate). AreThere (length c.sum.new.circuit.nodes) xs) (sym next)
          (moved_up-there (length c.sum.new.circuit.nodes) 1 moved c.sum.new.circuit.circuit.begun (all_there_later _ _ moved kept.front c.loop-bit.invariant.1)),
      ap length next ∙ length-moved_up 1 moved ∙ c.loop-bit.invariant.2,
    )

pub returns-clause-made : goal.returns-clause-made
returns-clause-made c =
    staged_all _ _ (length c.args.x.now * 6) _ _ _ _ _ c.loop-bit.invariant.0 (rows_none c.loop-bit.circuit.nodes c.loop-bit.total.items c.loop-bit.moved.items c.args.y.now c.loop-bit.bit-index (omega arith))

pub returns-clause-kept : goal.returns-clause-kept
returns-clause-kept c = adds_rounds _ _ c.loop-bit.bit-index (length c.args.y.now) (length c.args.x.now * 6) c.loop-bit.invariant.0.kept (omega arith)

pub returns-in_err-total-clause-kept : goal.returns-in_err-total-clause-kept
returns-in_err-total-clause-kept c = adds_any _ _

pub returns-in_err-moved-clause-kept : goal.returns-in_err-moved-clause-kept
returns-in_err-moved-clause-kept c = adds_any _ _

pub returns-in_err-addend-clause-kept : goal.returns-in_err-addend-clause-kept
returns-in_err-addend-clause-kept c =
    let row_wide = ap length c.as_slice.ensures.value ∙ c.loop-bit.invariant.2 in
    adds_stopped _ _ _ c.loop-bit.bit-index (length c.args.y.now) (length c.args.x.now * 6) _ c.loop-bit.invariant.0.kept c.row.ensures.kept (omega arith) (omega (arith, row_wide))

pub returns-in_err-total-2-clause-kept : goal.returns-in_err-total-2-clause-kept
returns-in_err-total-2-clause-kept c =
    let row_wide = ap length c.as_slice.ensures.value ∙ c.loop-bit.invariant.2 in
    let sum_wide = ap length c.as_slice-in-loop-bit.ensures.value ∙ c.loop-bit.invariant.0.wide in
    adds_stopped _ _ _ c.loop-bit.bit-index (length c.args.y.now) (length c.args.x.now * 6) _ c.loop-bit.invariant.0.kept (adds_then _ _ _ _ _ c.row.ensures.kept c.sum.ensures.kept) (omega arith) (omega (arith, row_wide, sum_wide))

pub returns-in_err-moved-2-clause-kept : goal.returns-in_err-moved-2-clause-kept
returns-in_err-moved-2-clause-kept c =
    let row_wide = ap length c.as_slice.ensures.value ∙ c.loop-bit.invariant.2 in
    let sum_wide = ap length c.as_slice-in-loop-bit.ensures.value ∙ c.loop-bit.invariant.0.wide in
    adds_stopped _ _ _ c.loop-bit.bit-index (length c.args.y.now) (length c.args.x.now * 6) _ c.loop-bit.invariant.0.kept (adds_then _ _ _ _ _ c.row.ensures.kept c.sum.ensures.kept) (omega arith) (omega (arith, row_wide, sum_wide))

pub row-requires-clause-left : goal.row-requires-clause-left
row-requires-clause-left c = there_at _ _ c.args.y.now c.loop-bit.bit-index c.loop-bit.invariant.0.kept.front c.requires.right c.loop-bit-test.true

pub row-requires-clause-right : goal.row-requires-clause-right
row-requires-clause-right c = subst (AreThere (length c.loop-bit.circuit.nodes)) (sym c.as_slice.ensures.value) c.loop-bit.invariant.1

pub sum-requires-clause-carry : goal.sum-requires-clause-carry
sum-requires-clause-carry c = subst (λ (g : Gate). g.number < length c.row.new.circuit.nodes) (sym c.constant-zero.ensures) c.row.new.circuit.circuit.begun

pub sum-requires-clause-left : goal.sum-requires-clause-left
sum-requires-clause-left c = subst (AreThere (length c.row.new.circuit.nodes)) (sym c.as_slice-in-loop-bit.ensures.value) (all_there_later _ _ c.loop-bit.total.items c.row.ensures.kept.front c.loop-bit.invariant.0.there)

pub sum-requires-clause-right : goal.sum-requires-clause-right
sum-requires-clause-right c = subst (AreThere (length c.row.new.circuit.nodes)) (sym c.as_slice-in-loop-bit-2.ensures.value) c.in_ok-addend.ensures.there

pub sum-requires-clause-same_width : goal.sum-requires-clause-same_width
sum-requires-clause-same_width c =
    let row_wide = c.in_ok-addend.ensures.width ∙ ap length c.as_slice.ensures.value ∙ c.loop-bit.invariant.2 in
    ap length c.as_slice-in-loop-bit.ensures.value ∙ c.loop-bit.invariant.0.wide ∙ sym (ap length c.as_slice-in-loop-bit-2.ensures.value ∙ row_wide)
