-- The windows that the steps left are of one length.
use Rattle.std.proofs.Common.{length, ap, sym, ◌∙◌}
use Rattle.pg_type.specs.Listed.{state_of}
use Rattle.pg_out_pair.proofs.PairLemmas.{seen-left, left-same}
use Rattle.pg_out_pair.proofs.told.tell_both.Goals as goal

pub differences-requires : goal.differences-requires
differences-requires c =
    let d = c.args.m.now.desc in
    let s = state_of c.args.s.now in
    let t = state_of c.args.t.now in
    ap length (seen-left d s c.seen.result c.in_ok-first.first c.seen.ensures.psw c.seen.ensures.state c.in_ok-first.ensures)
    ∙ left-same d s t c.args.m.now.valid c.requires
    ∙ sym (ap length (seen-left d t c.seen-2.result c.in_ok-second.second c.seen-2.ensures.psw c.seen-2.ensures.state c.in_ok-second.ensures))
