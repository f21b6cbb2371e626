use Rattle.std.proofs.Common.{◌*◌, sym, ◌∙◌, arith}
use Rattle.pg_image.specs.Lines.{line_cells}
use Rattle.pg_report.proofs.Runs.{take-span}
use Rattle.pg_run_still.proofs.viewing.row_of.Goals as goal

pub returns-clause-items : goal.returns-clause-items
returns-clause-items g c =
    c.words_at.ensures.items ∙ sym (take-span c.args.part.base c.args.part.size (line_cells * c.args.k) c.min.result (g.H.Hardware.machinery c.args.hw.now).state.cells (omega arith) c.min.ensures)
