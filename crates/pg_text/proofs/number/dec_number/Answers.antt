use Rattle.std.proofs.Common.{◌<◌, length, sym, ◌∙◌, rules}
use Rattle.pg_text.proofs.Digits.{dec_digits}
use Rattle.pg_text.proofs.number.dec_number.Goals as goal

pub number_below-requires-clause-digits : goal.number_below-requires-clause-digits
number_below-requires-clause-digits c =
    let some : 0 < length c.args.digits.now = search rules in
    (some, dec_digits c.args.digits.now (sym c.are_digits.ensures ∙ c.if-are_digits.true))
