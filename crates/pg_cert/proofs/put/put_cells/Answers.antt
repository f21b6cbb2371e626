use Rattle.std.proofs.Common.{◌∙◌}
use Rattle.std.proofs.lemmas.Result.{on_ok_weaker}
use Rattle.pg_cert.proofs.Spacing.{cells_text}
use Rattle.pg_cert.proofs.put.put_cells.Goals as goal

pub returns : goal.returns
returns c =
    on_ok_weaker c.put_line_end.result (λ e. e ∙ rw (c.in_ok-put_words.ensures, c.in_ok-put-2.ensures, c.in_ok-put.ensures, c.as_slice.ensures.value, c.dec.ensures, c.from.ensures)
    (cells_text c.args.into.now.items c.args.w c.args.first c.args.words.now)) c.put_line_end.ensures
