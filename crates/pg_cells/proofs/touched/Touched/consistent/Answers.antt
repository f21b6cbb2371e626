-- One more row of pairs, and at the end all of them.
use Rattle.std.proofs.Common.{List, ◌+◌, length, ap, ◌∙◌, arith}
use Rattle.std.proofs.lemmas.List.{take_rest}
use Rattle.pg_vec.proofs.Loops.{folded_next, folded_all}
use Rattle.pg_cells.specs.View.{View}
use Rattle.pg_cells.specs.declared.cell.Cell.{Cell}
use Rattle.pg_cells.specs.Made.{consistent_made}
use Rattle.pg_cells.proofs.OverLaws.{IsOver-later}
use Rattle.pg_cells.proofs.AgreeSteps.{own_cell, cell_widths, other_cells, begin, row_kept, rows_kept, few_kept, told, in_cells, pairs_none, pairs_next}
use Rattle.pg_cells.proofs.touched.Touched.consistent.Goals as goal

pub loop-i-init : goal.loop-i-init
loop-i-init c = begin _ _ c.as_slice-cells.result.now c.constant-so_far.result c.args.circuit.now.circuit.begun c.constant-so_far.ensures

pub agree_with_all-requires-clause-cell : goal.agree_with_all-requires-clause-cell
agree_with_all-requires-clause-cell c =
    own_cell c.args.circuit.now.nodes _ _ c.args.self.now c.as_slice-cells.result.now c.loop-i.i c.index-cells-i.result c.requires (c.as_slice-cells.ensures.value ∙ ap (λ (v : View). v.cells) c.self.view_is) c.loop-i.invariant.kept (omega arith) c.index-cells-i.is

pub agree_with_all-requires-clause-others : goal.agree_with_all-requires-clause-others
agree_with_all-requires-clause-others c =
    let widths = cell_widths c.args.circuit.now.nodes c.args.self.now c.as_slice-cells.result.now c.loop-i.i c.index-cells-i.result c.requires (c.as_slice-cells.ensures.value ∙ ap (λ (v : View). v.cells) c.self.view_is) (omega arith) c.index-cells-i.is in
    other_cells c.args.circuit.now.nodes _ _ c.args.self.now c.as_slice-cells.result.now c.loop-i.i _ _ _ c.requires (c.as_slice-cells.ensures.value ∙ ap (λ (v : View). v.cells) c.self.view_is) c.loop-i.invariant.kept widths.0 widths.1

pub returns-in_err-so_far-clause-kept : goal.returns-in_err-so_far-clause-kept
returns-in_err-so_far-clause-kept c =
    let t = c.args.self.now in
    let cells = (c.as_slice-cells.ensures.value ∙ ap (λ (v : View). v.cells) c.self.view_is) in
    let widths = cell_widths c.args.circuit.now.nodes c.args.self.now c.as_slice-cells.result.now c.loop-i.i c.index-cells-i.result c.requires (c.as_slice-cells.ensures.value ∙ ap (λ (v : View). v.cells) c.self.view_is) (omega arith) c.index-cells-i.is in
    rows_kept _ _ _ (length t.cells) _ c.loop-i.i c.loop-i.invariant.kept (row_kept _ _ t c.as_slice-cells.result.now c.loop-i.i _ _ _ (c.as_slice-cells.ensures.value ∙ ap (λ (v : View). v.cells) c.self.view_is) widths.0 widths.1 c.agree_with_all.ensures.kept) (in_cells t c.as_slice-cells.result.now c.loop-i.i cells (omega arith))

pub returns-in_err-so_far-clause-over : goal.returns-in_err-so_far-clause-over
returns-in_err-so_far-clause-over c =
    let g = returns-in_err-so_far-clause-kept c in
    IsOver-later _ _ c.args.self.now g.front c.requires

pub returns-in_err-so_far-clause-few : goal.returns-in_err-so_far-clause-few
returns-in_err-so_far-clause-few c = few_kept _ _ c.args.self.now c.requires (returns-in_err-so_far-clause-kept c)

pub loop-i-preserved : goal.loop-i-preserved
loop-i-preserved c =
    let t = c.args.self.now in
    let widths = cell_widths c.args.circuit.now.nodes c.args.self.now c.as_slice-cells.result.now c.loop-i.i c.index-cells-i.result c.requires (c.as_slice-cells.ensures.value ∙ ap (λ (v : View). v.cells) c.self.view_is) (omega arith) c.index-cells-i.is in
    folded_next _ _ _ _ _ _ _ c.in_ok-so_far.so_far _ _ c.loop-i.invariant (row_kept _ _ t c.as_slice-cells.result.now c.loop-i.i _ _ _ (c.as_slice-cells.ensures.value ∙ ap (λ (v : View). v.cells) c.self.view_is) widths.0 widths.1 c.agree_with_all.ensures.kept) c.in_ok-so_far.ensures.there
    (pairs_next _ c.loop-i.so_far c.as_slice-cells.result.now c.loop-i.i c.index-cells-i.result _ c.in_ok-so_far.so_far _ (omega arith) c.index-cells-i.is (take_rest c.as_slice-cells.result.now (c.loop-i.i + 1)) c.in_ok-so_far.ensures.made)

pub returns-clause-made : goal.returns-clause-made
returns-clause-made c =
    folded_all _ _ _ _ _ _ _ c.loop-i.invariant (pairs_none c.loop-i.circuit.nodes c.loop-i.so_far c.as_slice-cells.result.now c.loop-i.i (omega arith))
    ∙ ap (λ (cs : List Cell). consistent_made c.args.circuit.now.nodes cs) (c.as_slice-cells.ensures.value ∙ ap (λ (v : View). v.cells) c.self.view_is)

pub returns-clause-tells : goal.returns-clause-tells
returns-clause-tells c = told _ _ c.args.self.now c.loop-i.so_far c.args.circuit.now.circuit c.requires (returns-clause-made c)

pub returns-clause-over : goal.returns-clause-over
returns-clause-over c = IsOver-later _ _ c.args.self.now c.loop-i.invariant.kept.front c.requires
