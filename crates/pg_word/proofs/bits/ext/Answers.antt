use Rattle.pg_word.proofs.Numbers.{below_pow_wider}
use Rattle.pg_word.proofs.bits.ext.Goals as goal

pub returns-clause-fits : goal.returns-clause-fits
returns-clause-fits c = below_pow_wider _ _ _ c.requires.x_fits c.requires.wider
