use Rattle.std.proofs.lemmas.Nat.{xor_lt}
use Rattle.pg_word.proofs.bits.xor.Goals as goal

pub returns-clause-fits : goal.returns-clause-fits
returns-clause-fits c = xor_lt _ _ _ c.requires.x_fits c.requires.y_fits
