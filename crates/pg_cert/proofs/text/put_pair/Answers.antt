use Rattle.std.proofs.lemmas.Result.{on_ok_weaker}
use Rattle.pg_cert.specs.Texts.{state_lines}
use Rattle.pg_cert.proofs.TextLemmas.{put_two}
use Rattle.pg_cert.proofs.text.put_pair.Goals as goal

pub returns : goal.returns
returns c =
    on_ok_weaker c.put_state-2.result (λ e. put_two c.args.shape.now c.args.into.now.items c.put_state-2.new.into.items (state_lines c.args.first.now) (state_lines c.args.second.now) (rw c.in_ok-put_state.ensures at e)) c.put_state-2.ensures
