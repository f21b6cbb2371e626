use Rattle.std.proofs.Common.{◌∙◌}
use Rattle.pg_word.proofs.Numbers.{mod_64_mod}
use Rattle.pg_word.proofs.bits.add.Goals as goal

pub returns-clause-value : goal.returns-clause-value
returns-clause-value c = c.low.ensures.value ∙ mod_64_mod c.args.n _ c.requires.width.most
