use Rattle.std.proofs.Common.{◌∙◌}
use Rattle.pg_lang_print.proofs.Listing.{on_ok, head_whole}
use Rattle.pg_lang_print.proofs.tokens.put_head.Goals as goal

pub returns : goal.returns
returns c =
    on_ok c.put_sign-2.result (λ e. e ∙ rw (c.in_ok-put_causes.ensures, c.in_ok-put_numbers.ensures, c.in_ok-put_sign.ensures, c.in_ok-put_word.ensures)
    (head_whole c.args.list.now c.args.desc.now)) c.put_sign-2.ensures
