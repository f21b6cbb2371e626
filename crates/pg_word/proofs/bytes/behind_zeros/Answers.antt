use Rattle.std.proofs.Common.{◌-◌, length, arith}
use Rattle.pg_word.proofs.Joined.{behind_zeros}
use Rattle.pg_word.proofs.bytes.behind_zeros.Goals as goal

pub returns : goal.returns
returns c = behind_zeros (8 - length c.args.bytes.now) c.copy_from_slice.new.self c.args.bytes.now (omega arith) c.copy_from_slice.ensures.after
