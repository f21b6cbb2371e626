use Rattle.std.proofs.Common.{◌<◌, ◌^◌, ◌*◌, ◌∙◌, sym}
use Rattle.pg_image.specs.Lines.{line_cells}
use Rattle.pg_report.proofs.Runs.{All-read}
use Rattle.pg_report.proofs.Texts.{shown-zero, shown-some}
use Rattle.pg_report.proofs.state.row_line.Goals as goal

pub returns-then-are_zero-clause-none : goal.returns-then-are_zero-clause-none
returns-then-are_zero-clause-none g c =
    let words = c.as_slice-words.ensures.value ∙ c.words_of-row.ensures.items in
    λ e. shown-zero c.args.shape.now.w (line_cells * c.args.k) _ _ _ words c.are_zero.ensures c.if-are_zero.true

pub cell_line-requires-clause-fit : goal.cell_line-requires-clause-fit
cell_line-requires-clause-fit g c =
    let words = c.as_slice-words.ensures.value ∙ c.words_of-row.ensures.items in
    All-read (λ word. word < 2 ^ c.args.shape.now.w) line_cells (line_cells * c.args.k) _ _ words c.requires.fit

pub returns-clause-text : goal.returns-clause-text
returns-clause-text g c =
    let words = c.as_slice-words.ensures.value ∙ c.words_of-row.ensures.items in
    let shown = shown-some c.args.shape.now.w (line_cells * c.args.k) _ _ _ words c.are_zero.ensures c.if-are_zero.false in
    c.cell_line.ensures.text ∙ sym shown
