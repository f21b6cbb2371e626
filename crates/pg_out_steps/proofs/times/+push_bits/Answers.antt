use Rattle.std.proofs.Common.{arith}
use Rattle.pg_out_steps.proofs.DumpLemmas.{bits-next}
use Rattle.pg_out_steps.proofs.times.+push_bits.Goals as goal

pub returns : goal.returns
returns t c = bits-next c.args.n c.args.number c.args.text.now.items _ _ (omega arith) c.in_ok-push_bits.ensures c.in_ok-push.ensures.items
