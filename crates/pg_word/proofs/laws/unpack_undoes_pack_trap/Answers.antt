use Rattle.pg_word.proofs.Words.{unpacked_packed_trap}
use Rattle.pg_word.proofs.laws.unpack_undoes_pack_trap.Goals as goal

pub returns : goal.returns
returns c = unpacked_packed_trap c.args.s _ c.args.cause c.requires
