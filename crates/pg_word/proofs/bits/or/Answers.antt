use Rattle.std.proofs.lemmas.Nat.{or_lt}
use Rattle.pg_word.proofs.bits.or.Goals as goal

pub returns-clause-fits : goal.returns-clause-fits
returns-clause-fits c = or_lt _ _ _ c.requires.x_fits c.requires.y_fits
