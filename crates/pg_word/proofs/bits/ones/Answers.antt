use Rattle.pg_word.proofs.Numbers.{ones_left}
use Rattle.pg_word.proofs.bits.ones.Goals as goal

pub returns : goal.returns
returns c = ones_left c.args.n c.requires.width.most
