use Rattle.pg_cells.proofs.InputLaws.{has_inputs}
use Rattle.pg_cells.proofs.laws.storages_have_inputs.Goals as goal

pub returns : goal.returns
returns c =
    let t = c.args.touched.now in
    λ storage inputs s many. has_inputs t.cells c.args.nodes.now t.w t.a storage inputs c.requires.circuit many c.requires.over.word_width.least s c.requires.over.cells
