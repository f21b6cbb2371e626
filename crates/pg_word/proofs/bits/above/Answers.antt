use Rattle.std.proofs.Common.{◌∙◌, ap, bit_or}
use Rattle.pg_word.proofs.Numbers.{or_wrapping_shl}
use Rattle.pg_word.proofs.bits.above.Goals as goal

pub returns : goal.returns
returns c =
    ap (λ t. bit_or t c.args.low) c.wrapping_shl.ensures
    ∙ or_wrapping_shl c.args.high c.args.width c.args.low c.requires.low_fits c.requires.all_fit
