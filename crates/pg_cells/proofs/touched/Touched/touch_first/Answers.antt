-- The writes are laid over new inputs, which become a cell's word.
use Rattle.std.proofs.Common.{length, ap, ◌∙◌, refl}
use Rattle.pg_cells.specs.View.{View}
use Rattle.pg_cells.proofs.OverLaws.{AreWrites-later}
use Rattle.pg_cells.proofs.TouchSteps.{ready_writes, ready_inputs, width_along, first_grows, inputs_grow}
use Rattle.pg_cells.proofs.touched.Touched.touch_first.Goals as goal

pub lay-requires-clause-writes : goal.lay-requires-clause-writes
lay-requires-clause-writes c =
    let t = c.args.self.now in
    let w = ap (λ (v : View). v.w) c.self.view_is in
    let word = ready_inputs c.args.circuit.now.nodes c.inputs.new.circuit.nodes _ c.in_ok-initial.initial.items c.as_slice-2.result.now c.in_ok-initial.ensures.made c.as_slice-2.ensures.value in
    ready_writes _ t.w t.a c.as_slice-writes.result.now t.writes c.as_slice-2.result.now c.as_slice.result.now
    (c.as_slice-writes.ensures.value ∙ ap (λ (v : View). v.writes) c.self.view_is) (word.0 ∙ w) (ap length c.as_slice.ensures.gates ∙ c.requires.width)
    (AreWrites-later c.args.circuit.now.nodes c.inputs.new.circuit.nodes t.w t.a t.writes c.inputs.ensures.kept.front c.requires.over.writes)

pub lay-requires-clause-word : goal.lay-requires-clause-word
lay-requires-clause-word c =
    let word = ready_inputs c.args.circuit.now.nodes c.inputs.new.circuit.nodes _ c.in_ok-initial.initial.items c.as_slice-2.result.now c.in_ok-initial.ensures.made c.as_slice-2.ensures.value in
    word.1

pub returns-in_err-word-clause-grows : goal.returns-in_err-word-clause-grows
returns-in_err-word-clause-grows c =
    let t = c.args.self.now in
    let w = ap (λ (v : View). v.w) c.self.view_is in
    let word = ready_inputs c.args.circuit.now.nodes c.inputs.new.circuit.nodes _ c.in_ok-initial.initial.items c.as_slice-2.result.now c.in_ok-initial.ensures.made c.as_slice-2.ensures.value in
    first_grows c.args.circuit.now.nodes c.inputs.new.circuit.nodes _ t c.as_slice-writes.result.now c.as_slice-2.result.now c.as_slice.result.now (inputs_grow _ _ _ t.w w c.inputs.ensures.kept)
    (c.as_slice-writes.ensures.value ∙ ap (λ (v : View). v.writes) c.self.view_is) (word.0 ∙ w) (ap length c.as_slice.ensures.gates ∙ c.requires.width) c.lay.ensures.kept

pub returns-in_err-address-clause-grows : goal.returns-in_err-address-clause-grows
returns-in_err-address-clause-grows c =
    let t = c.args.self.now in
    let w = ap (λ (v : View). v.w) c.self.view_is in
    let word = ready_inputs c.args.circuit.now.nodes c.inputs.new.circuit.nodes _ c.in_ok-initial.initial.items c.as_slice-2.result.now c.in_ok-initial.ensures.made c.as_slice-2.ensures.value in
    first_grows c.args.circuit.now.nodes c.inputs.new.circuit.nodes _ t c.as_slice-writes.result.now c.as_slice-2.result.now c.as_slice.result.now (inputs_grow _ _ _ t.w w c.inputs.ensures.kept)
    (c.as_slice-writes.ensures.value ∙ ap (λ (v : View). v.writes) c.self.view_is) (word.0 ∙ w) (ap length c.as_slice.ensures.gates ∙ c.requires.width) c.lay.ensures.kept

pub from_vec-requires : goal.from_vec-requires
from_vec-requires c =
    let t = c.args.self.now in
    let w = ap (λ (v : View). v.w) c.self.view_is in
    let word = ready_inputs c.args.circuit.now.nodes c.inputs.new.circuit.nodes _ c.in_ok-initial.initial.items c.in_ok-initial.initial.items c.in_ok-initial.ensures.made refl in
    width_along t.w _ c.requires.over.word_width (word.0 ∙ w)

pub returns-in_err-push-clause-grows : goal.returns-in_err-push-clause-grows
returns-in_err-push-clause-grows c =
    let t = c.args.self.now in
    let w = ap (λ (v : View). v.w) c.self.view_is in
    let word = ready_inputs c.args.circuit.now.nodes c.inputs.new.circuit.nodes _ c.in_ok-initial.initial.items c.as_slice-2.result.now c.in_ok-initial.ensures.made c.as_slice-2.ensures.value in
    first_grows c.args.circuit.now.nodes c.inputs.new.circuit.nodes _ t c.as_slice-writes.result.now c.as_slice-2.result.now c.as_slice.result.now (inputs_grow _ _ _ t.w w c.inputs.ensures.kept)
    (c.as_slice-writes.ensures.value ∙ ap (λ (v : View). v.writes) c.self.view_is) (word.0 ∙ w) (ap length c.as_slice.ensures.gates ∙ c.requires.width) c.lay.ensures.kept

pub returns-clause-grows : goal.returns-clause-grows
returns-clause-grows c =
    let t = c.args.self.now in
    let w = ap (λ (v : View). v.w) c.self.view_is in
    let word = ready_inputs c.args.circuit.now.nodes c.inputs.new.circuit.nodes _ c.in_ok-initial.initial.items c.as_slice-2.result.now c.in_ok-initial.ensures.made c.as_slice-2.ensures.value in
    first_grows c.args.circuit.now.nodes c.inputs.new.circuit.nodes _ t c.as_slice-writes.result.now c.as_slice-2.result.now c.as_slice.result.now (inputs_grow _ _ _ t.w w c.inputs.ensures.kept)
    (c.as_slice-writes.ensures.value ∙ ap (λ (v : View). v.writes) c.self.view_is) (word.0 ∙ w) (ap length c.as_slice.ensures.gates ∙ c.requires.width) c.lay.ensures.kept
