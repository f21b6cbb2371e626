use Rattle.pg_word.proofs.Words.{packed_below}
use Rattle.pg_word.proofs.laws.packed_fits.Goals as goal

pub returns : goal.returns
returns c = packed_below _ _ c.requires
