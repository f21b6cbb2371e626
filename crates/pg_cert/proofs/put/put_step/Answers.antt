use Rattle.std.proofs.Common.{◌∙◌}
use Rattle.std.proofs.lemmas.Result.{on_ok_weaker}
use Rattle.pg_cert.proofs.Spacing.{step_text}
use Rattle.pg_cert.proofs.put.put_step.Goals as goal

pub returns : goal.returns
returns c =
    on_ok_weaker c.put_line_end.result (λ e. e ∙ rw (c.in_ok-put_zero-2.ensures, c.in_ok-put_numbers.ensures, c.in_ok-put_zero.ensures, c.in_ok-put_lits.ensures, c.in_ok-put.ensures, c.as_slice.ensures, c.as_slice-2.ensures)
    (step_text c.args.into.now.items c.args.step.now.lits c.args.step.now.hints)) c.put_line_end.ensures
