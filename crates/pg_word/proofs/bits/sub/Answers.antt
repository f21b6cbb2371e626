use Rattle.std.proofs.Common.{◌∙◌, le_of_lt}
use Rattle.pg_word.proofs.Numbers.{sub_64_mod}
use Rattle.pg_word.proofs.bits.sub.Goals as goal

pub returns-clause-value : goal.returns-clause-value
returns-clause-value c =
    c.low.ensures.value
    ∙ sub_64_mod c.args.n c.args.x c.args.y c.requires.width.most (le_of_lt c.requires.y_fits)
