use Rattle.std.proofs.Common.{arith}
use Rattle.pg_cmd_gen.proofs.FromState.{bits-next}
use Rattle.pg_cmd_gen.proofs.instrs.+put_bits.Goals as goal

pub returns : goal.returns
returns t c = bits-next c.args.n c.args.number c.args.bytes.now.items _ _ (omega arith) c.in_ok-put_bits.ensures c.in_ok-push.ensures.items
