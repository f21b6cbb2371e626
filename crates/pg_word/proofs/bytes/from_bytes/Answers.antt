use Rattle.std.proofs.Common.{◌-◌, length, arith, ◌∙◌}
use Rattle.pg_word.proofs.Joined.{joined_behind_zeros}
use Rattle.pg_word.proofs.bytes.from_bytes.Goals as goal

pub returns : goal.returns
returns c = c.from_be_bytes.ensures ∙ joined_behind_zeros (8 - length c.args.bytes.now) c.args.bytes.now c.behind_zeros.result (omega arith) c.behind_zeros.ensures
