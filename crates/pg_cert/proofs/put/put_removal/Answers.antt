use Rattle.std.proofs.Common.{◌∙◌}
use Rattle.std.proofs.lemmas.Result.{on_ok_weaker}
use Rattle.pg_cert.proofs.Spacing.{removal_text}
use Rattle.pg_cert.proofs.put.put_removal.Goals as goal

pub returns : goal.returns
returns c =
    on_ok_weaker c.put_line_end.result (λ e. e ∙ rw (c.in_ok-put_zero.ensures, c.in_ok-put_numbers.ensures, c.in_ok-put.ensures)
    (removal_text c.args.into.now.items c.args.numbers.now)) c.put_line_end.ensures
