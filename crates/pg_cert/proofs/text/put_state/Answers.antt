use Rattle.std.proofs.lemmas.Result.{on_ok_weaker}
use Rattle.pg_cert.proofs.TextLemmas.{state_text_put}
use Rattle.pg_cert.proofs.text.put_state.Goals as goal

pub returns : goal.returns
returns c =
    on_ok_weaker c.put_rows.result (λ e. state_text_put c.args.shape.now c.args.state.now c.args.into.now.items c.put_rows.new.into.items (rw (c.in_ok-put_psw.ensures, c.in_ok-put_size.ensures, c.as_slice.ensures.cells) at e)) c.put_rows.ensures
