use Rattle.std.proofs.Common.{◌∙◌}
use Rattle.pg_move.proofs.PutLemmas.{cells_fit, written}
use Rattle.pg_move.proofs.writing.write_saved.Goals as goal

pub put_state-requires-clause-fit : goal.put_state-requires-clause-fit
put_state-requires-clause-fit c = cells_fit c.args.shape.now.w c.args.saved.now.state c.as_slice-cells.ensures.listed c.requires.saved.words

pub returns : goal.returns
returns c =
    written c.args.shape.now c.args.saved.now.steps c.args.saved.now.state _ _ _ _ _ _ _ c.new-text.ensures.items
    c.in_ok-extend_from_slice.ensures.items c.first_line.ensures c.in_ok-extend_from_slice-2.ensures.items
    (c.as_slice.ensures.value ∙ c.steps_line.ensures.text) c.in_ok-put_state.ensures c.in_ok-put_end.ensures
