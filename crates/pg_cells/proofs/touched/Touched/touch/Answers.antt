-- The cell is found, or is a new one; what is made is worth what the definitions say.
use Rattle.std.proofs.Common.{ap, ◌∙◌}
use Rattle.pg_cells.specs.View.{View}
use Rattle.pg_cells.proofs.TouchSteps.{place_word, place_none, again_made, again_cells, first_made, first_cells, made_ok, cells_same, cells_ok, err_same, touch_clauses}
use Rattle.pg_cells.proofs.touched.Touched.touch.Goals as goal

pub returns-in-Some-clause-made : goal.returns-in-Some-clause-made
returns-in-Some-clause-made c =
    let t = c.args.self.now in
    let word = place_word t c.as_slice.result.now c.as_slice-2.result.now c.args.address.now c.in-Some.place (c.as_slice.ensures.value ∙ ap (λ (v : View). v.cells) c.self.view_is) c.as_slice-2.ensures.gates c.in-Some.ensures in
    made_ok c.touch_again.result _ _ _ (again_made c.args.circuit.now.nodes t c.args.address.now _ word) c.touch_again.ensures.made

pub returns-in-Some-clause-cells : goal.returns-in-Some-clause-cells
returns-in-Some-clause-cells c =
    let t = c.args.self.now in
    let word = place_word t c.as_slice.result.now c.as_slice-2.result.now c.args.address.now c.in-Some.place (c.as_slice.ensures.value ∙ ap (λ (v : View). v.cells) c.self.view_is) c.as_slice-2.ensures.gates c.in-Some.ensures in
    cells_same c.touch_again.result t _ (again_cells c.args.circuit.now.nodes t c.args.address.now _ word)

pub returns-in-Some-clause-worth : goal.returns-in-Some-clause-worth
returns-in-Some-clause-worth c =
    (touch_clauses c.touch_again.result c.args.circuit.now.nodes c.touch_again.new.circuit.nodes c.args.self.now c.args.self.now c.args.address.now c.args.circuit.now.circuit c.requires.over c.requires.there c.requires.width
    c.touch_again.ensures.grows (returns-in-Some-clause-made c) (returns-in-Some-clause-cells c) (err_same c.touch_again.result c.args.self.now)).worth

pub returns-in-Some-clause-there : goal.returns-in-Some-clause-there
returns-in-Some-clause-there c =
    (touch_clauses c.touch_again.result c.args.circuit.now.nodes c.touch_again.new.circuit.nodes c.args.self.now c.args.self.now c.args.address.now c.args.circuit.now.circuit c.requires.over c.requires.there c.requires.width
    c.touch_again.ensures.grows (returns-in-Some-clause-made c) (returns-in-Some-clause-cells c) (err_same c.touch_again.result c.args.self.now)).there

pub returns-in-Some-clause-width : goal.returns-in-Some-clause-width
returns-in-Some-clause-width c =
    (touch_clauses c.touch_again.result c.args.circuit.now.nodes c.touch_again.new.circuit.nodes c.args.self.now c.args.self.now c.args.address.now c.args.circuit.now.circuit c.requires.over c.requires.there c.requires.width
    c.touch_again.ensures.grows (returns-in-Some-clause-made c) (returns-in-Some-clause-cells c) (err_same c.touch_again.result c.args.self.now)).wide

pub returns-in-Some-clause-over : goal.returns-in-Some-clause-over
returns-in-Some-clause-over c =
    (touch_clauses c.touch_again.result c.args.circuit.now.nodes c.touch_again.new.circuit.nodes c.args.self.now c.args.self.now c.args.address.now c.args.circuit.now.circuit c.requires.over c.requires.there c.requires.width
    c.touch_again.ensures.grows (returns-in-Some-clause-made c) (returns-in-Some-clause-cells c) (err_same c.touch_again.result c.args.self.now)).over

pub returns-in-None-clause-made : goal.returns-in-None-clause-made
returns-in-None-clause-made c =
    let t = c.args.self.now in
    let none = place_none t c.as_slice.result.now c.as_slice-2.result.now c.args.address.now (c.as_slice.ensures.value ∙ ap (λ (v : View). v.cells) c.self.view_is) c.as_slice-2.ensures.gates c.in-None.ensures in
    made_ok c.touch_first.result _ _ _ (first_made c.args.circuit.now.nodes t c.args.address.now none) c.touch_first.ensures.made

pub returns-in-None-clause-cells : goal.returns-in-None-clause-cells
returns-in-None-clause-cells c =
    let t = c.args.self.now in
    let none = place_none t c.as_slice.result.now c.as_slice-2.result.now c.args.address.now (c.as_slice.ensures.value ∙ ap (λ (v : View). v.cells) c.self.view_is) c.as_slice-2.ensures.gates c.in-None.ensures in
    cells_ok c.touch_first.result t c.touch_first.new.self _ _ (first_cells c.args.circuit.now.nodes t c.args.address.now none) c.touch_first.ensures.cells

pub returns-in-None-clause-worth : goal.returns-in-None-clause-worth
returns-in-None-clause-worth c =
    (touch_clauses c.touch_first.result c.args.circuit.now.nodes c.touch_first.new.circuit.nodes c.args.self.now c.touch_first.new.self c.args.address.now c.args.circuit.now.circuit c.requires.over c.requires.there c.requires.width
    c.touch_first.ensures.grows (returns-in-None-clause-made c) (returns-in-None-clause-cells c) c.touch_first.ensures.err).worth

pub returns-in-None-clause-there : goal.returns-in-None-clause-there
returns-in-None-clause-there c =
    (touch_clauses c.touch_first.result c.args.circuit.now.nodes c.touch_first.new.circuit.nodes c.args.self.now c.touch_first.new.self c.args.address.now c.args.circuit.now.circuit c.requires.over c.requires.there c.requires.width
    c.touch_first.ensures.grows (returns-in-None-clause-made c) (returns-in-None-clause-cells c) c.touch_first.ensures.err).there

pub returns-in-None-clause-width : goal.returns-in-None-clause-width
returns-in-None-clause-width c =
    (touch_clauses c.touch_first.result c.args.circuit.now.nodes c.touch_first.new.circuit.nodes c.args.self.now c.touch_first.new.self c.args.address.now c.args.circuit.now.circuit c.requires.over c.requires.there c.requires.width
    c.touch_first.ensures.grows (returns-in-None-clause-made c) (returns-in-None-clause-cells c) c.touch_first.ensures.err).wide

pub returns-in-None-clause-over : goal.returns-in-None-clause-over
returns-in-None-clause-over c =
    (touch_clauses c.touch_first.result c.args.circuit.now.nodes c.touch_first.new.circuit.nodes c.args.self.now c.touch_first.new.self c.args.address.now c.args.circuit.now.circuit c.requires.over c.requires.there c.requires.width
    c.touch_first.ensures.grows (returns-in-None-clause-made c) (returns-in-None-clause-cells c) c.touch_first.ensures.err).over
