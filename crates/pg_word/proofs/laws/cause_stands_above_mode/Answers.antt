use Rattle.pg_word.proofs.Words.{packed_trap_cause}
use Rattle.pg_word.proofs.laws.cause_stands_above_mode.Goals as goal

pub returns : goal.returns
returns c = packed_trap_cause c.args.s _ _ c.requires.on c.requires.fields
