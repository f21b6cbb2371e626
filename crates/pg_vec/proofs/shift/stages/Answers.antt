-- One more stage, and at the end all of them.
use Rattle.std.proofs.Common.{◌*◌, length, refl, arith, subst, sym, ap, ◌∙◌}
use Rattle.std.proofs.lemmas.Nat.{pow-add}
use Rattle.pg_vec.specs.Direction.{move_of}
use Rattle.pg_vec.specs.There.{AreThere}
use Rattle.pg_vec.specs.AddsNodes.{AddsNodes}
use Rattle.pg_vec.proofs.Kept.{there_at, adds_any, adds_rounds, adds_stopped}
use Rattle.pg_vec.proofs.Loops.{staged_next, staged_all, stages_begin, stages_none, stages_next, moved_wide, moved_there}
use Rattle.pg_vec.proofs.shift.stages.Goals as goal

pub loop-choice-preserved : goal.loop-choice-preserved
loop-choice-preserved c =
    let bits = c.loop-choice.bits.items in
    let step = c.loop-choice.step in
    let moved = c.in_ok-far.ensures ∙ ap (move_of c.args.way step) c.as_slice.ensures.value in
    let far = ap length c.as_slice-in-loop-choice.ensures.value ∙ ap length moved ∙ moved_wide c.args.way step bits ∙ c.loop-choice.invariant.0.wide in
    let wide = c.in_ok-bits-2.ensures.width ∙ far in
    let kept = subst (λ n. AddsNodes c.loop-choice.circuit.nodes c.pairwise.new.circuit.nodes (n * 3)) far c.pairwise.ensures.kept in (
      staged_next _ _ (length c.args.x.now * 3) _ _ _ _ _ c.in_ok-bits-2.bits.items _ _ c.loop-choice.invariant.0 kept c.in_ok-bits-2.ensures.there wide
          (stages_next (move_of c.args.way) _ step bits c.args.by.now c.loop-choice.choice-index c.in_ok-far.far.items c.as_slice-in-loop-choice.result.now c.as_slice-in-loop-choice-2.result.now
          c.in_ok-bits-2.bits.items _ (omega arith) moved c.as_slice-in-loop-choice.ensures.value c.as_slice-in-loop-choice-2.ensures.value c.in_ok-bits-2.ensures.made),
      ap (λ k. k * 2) c.loop-choice.invariant.1 ∙ sym (pow-add 2 c.loop-choice.choice-index 1),
    )

pub returns-clause-made : goal.returns-clause-made
returns-clause-made c =
    staged_all _ _ (length c.args.x.now * 3) _ _ _ _ _ c.loop-choice.invariant.0 (stages_none (move_of c.args.way) c.loop-choice.circuit.nodes c.loop-choice.step c.loop-choice.bits.items c.args.by.now c.loop-choice.choice-index (omega arith))

pub returns-clause-kept : goal.returns-clause-kept
returns-clause-kept c = adds_rounds _ _ c.loop-choice.choice-index (length c.args.by.now) (length c.args.x.now * 3) c.loop-choice.invariant.0.kept (omega arith)

pub returns-in_err-bits-clause-kept : goal.returns-in_err-bits-clause-kept
returns-in_err-bits-clause-kept c = adds_any _ _

pub returns-in_err-far-clause-kept : goal.returns-in_err-far-clause-kept
returns-in_err-far-clause-kept c = adds_rounds _ _ c.loop-choice.choice-index (length c.args.by.now) (length c.args.x.now * 3) c.loop-choice.invariant.0.kept (omega arith)

pub returns-in_err-bits-2-clause-kept : goal.returns-in_err-bits-2-clause-kept
returns-in_err-bits-2-clause-kept c =
    let bits = c.loop-choice.bits.items in
    let moved = c.in_ok-far.ensures ∙ ap (move_of c.args.way c.loop-choice.step) c.as_slice.ensures.value in
    let far = ap length c.as_slice-in-loop-choice.ensures.value ∙ ap length moved ∙ moved_wide c.args.way c.loop-choice.step bits ∙ c.loop-choice.invariant.0.wide in
    let kept = subst (λ n. AddsNodes c.loop-choice.circuit.nodes c.pairwise.new.circuit.nodes (n * 3)) far c.pairwise.ensures.kept in
    adds_stopped _ _ _ c.loop-choice.choice-index (length c.args.by.now) (length c.args.x.now * 3) (length c.args.x.now * 3) c.loop-choice.invariant.0.kept kept (omega arith) (omega arith)

pub loop-choice-init : goal.loop-choice-init
loop-choice-init c = (stages_begin (move_of c.args.way) _ _ c.args.x.now c.args.by.now c.in_ok-bits.bits.items c.requires.left c.in_ok-bits.ensures.items, refl)

pub pairwise-requires-clause-ready : goal.pairwise-requires-clause-ready
pairwise-requires-clause-ready c = there_at _ _ c.args.by.now c.loop-choice.choice-index c.loop-choice.invariant.0.kept.front c.requires.right c.loop-choice-test.true

pub pairwise-requires-clause-left : goal.pairwise-requires-clause-left
pairwise-requires-clause-left c =
    let far = c.as_slice-in-loop-choice.ensures.value ∙ c.in_ok-far.ensures ∙ ap (move_of c.args.way c.loop-choice.step) c.as_slice.ensures.value in
    subst (AreThere (length c.loop-choice.circuit.nodes)) (sym far)
    (moved_there c.args.way (length c.loop-choice.circuit.nodes) c.loop-choice.step c.loop-choice.bits.items c.loop-choice.circuit.circuit.begun c.loop-choice.invariant.0.there)

pub pairwise-requires-clause-right : goal.pairwise-requires-clause-right
pairwise-requires-clause-right c = subst (AreThere (length c.loop-choice.circuit.nodes)) (sym c.as_slice-in-loop-choice-2.ensures.value) c.loop-choice.invariant.0.there

pub pairwise-requires-clause-same_width : goal.pairwise-requires-clause-same_width
pairwise-requires-clause-same_width c =
    let far = c.as_slice-in-loop-choice.ensures.value ∙ c.in_ok-far.ensures ∙ ap (move_of c.args.way c.loop-choice.step) c.as_slice.ensures.value in
    ap length far ∙ moved_wide c.args.way c.loop-choice.step c.loop-choice.bits.items ∙ sym (ap length c.as_slice-in-loop-choice-2.ensures.value)
