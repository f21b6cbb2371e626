use Rattle.std.proofs.Common.{◌∙◌}
use Rattle.std.proofs.lemmas.Result.{on_ok_weaker}
use Rattle.pg_cert.proofs.Spacing.{header_text}
use Rattle.pg_cert.proofs.put.put_header.Goals as goal

pub returns : goal.returns
returns c =
    on_ok_weaker c.put_line_end.result (λ e. e ∙ rw (c.in_ok-put_found.ensures, c.in_ok-put_part-2.ensures, c.kind_name.ensures, c.in_ok-put_part.ensures, c.in_ok-put.ensures)
    (header_text c.args.into.now.items c.args.name.now c.args.kind c.args.found)) c.put_line_end.ensures
