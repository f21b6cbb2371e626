use Rattle.pg_word.proofs.Words.{packed_trap_below}
use Rattle.pg_word.proofs.laws.packed_trap_fits.Goals as goal

pub returns : goal.returns
returns c = packed_trap_below _ _ _ c.requires.shape c.requires.fields c.requires.cause_most
