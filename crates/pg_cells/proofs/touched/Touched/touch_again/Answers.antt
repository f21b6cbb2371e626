-- The writes are laid over the cell's word.
use Rattle.std.proofs.Common.{length, ap, ◌∙◌}
use Rattle.pg_cells.specs.View.{View}
use Rattle.pg_cells.proofs.TouchSteps.{ready_writes, again_word, again_grows}
use Rattle.pg_cells.proofs.touched.Touched.touch_again.Goals as goal

pub lay-requires-clause-writes : goal.lay-requires-clause-writes
lay-requires-clause-writes c =
    let t = c.args.self.now in
    let word = again_word c.args.circuit.now.nodes t c.args.place c.as_slice.result.now c.index-as_slice-place.result c.as_slice-3.result.now c.requires.over c.requires.place
    (c.as_slice.ensures.value ∙ ap (λ (v : View). v.cells) c.self.view_is) c.index-as_slice-place.is c.as_slice-3.ensures.gates in
    ready_writes _ t.w t.a c.as_slice-writes.result.now t.writes c.as_slice-3.result.now c.as_slice-2.result.now
    (c.as_slice-writes.ensures.value ∙ ap (λ (v : View). v.writes) c.self.view_is) word.0 (ap length c.as_slice-2.ensures.gates ∙ c.requires.width) c.requires.over.writes

pub lay-requires-clause-word : goal.lay-requires-clause-word
lay-requires-clause-word c =
    let word = again_word c.args.circuit.now.nodes c.args.self.now c.args.place c.as_slice.result.now c.index-as_slice-place.result c.as_slice-3.result.now c.requires.over c.requires.place
    (c.as_slice.ensures.value ∙ ap (λ (v : View). v.cells) c.self.view_is) c.index-as_slice-place.is c.as_slice-3.ensures.gates in
    word.1

pub returns-in_err-word-clause-grows : goal.returns-in_err-word-clause-grows
returns-in_err-word-clause-grows c =
    let t = c.args.self.now in
    let word = again_word c.args.circuit.now.nodes t c.args.place c.as_slice.result.now c.index-as_slice-place.result c.as_slice-3.result.now c.requires.over c.requires.place
    (c.as_slice.ensures.value ∙ ap (λ (v : View). v.cells) c.self.view_is) c.index-as_slice-place.is c.as_slice-3.ensures.gates in
    again_grows _ _ t c.as_slice-writes.result.now c.as_slice-3.result.now c.as_slice-2.result.now
    (c.as_slice-writes.ensures.value ∙ ap (λ (v : View). v.writes) c.self.view_is) word.0 (ap length c.as_slice-2.ensures.gates ∙ c.requires.width) c.lay.ensures.kept

pub returns-clause-grows : goal.returns-clause-grows
returns-clause-grows c =
    let t = c.args.self.now in
    let word = again_word c.args.circuit.now.nodes t c.args.place c.as_slice.result.now c.index-as_slice-place.result c.as_slice-3.result.now c.requires.over c.requires.place
    (c.as_slice.ensures.value ∙ ap (λ (v : View). v.cells) c.self.view_is) c.index-as_slice-place.is c.as_slice-3.ensures.gates in
    again_grows _ _ t c.as_slice-writes.result.now c.as_slice-3.result.now c.as_slice-2.result.now
    (c.as_slice-writes.ensures.value ∙ ap (λ (v : View). v.writes) c.self.view_is) word.0 (ap length c.as_slice-2.ensures.gates ∙ c.requires.width) c.lay.ensures.kept
