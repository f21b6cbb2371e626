use Rattle.std.proofs.Common.{◌≡◌, ◌+◌, ◌*◌, ◌-◌, ◌/◌, ◌^◌, ap, arith, ◌∙◌}
use Rattle.std.proofs.Math.Pow.{pow_mono}
use Rattle.pg_word.proofs.Numbers.{add_top_bit_mul, sign_extended_below}
use Rattle.pg_word.proofs.bits.sext.Goals as goal

pub overflow_sub-result : goal.overflow_sub-result
overflow_sub-result c = omega (arith, pow_mono c.requires.wider)

pub returns-clause-value : goal.returns-clause-value
returns-clause-value c =
    let e : c.ones.result - c.ones-2.result ≡ 2 ^ c.args.to - 2 ^ c.args.n = omega (arith, pow_mono c.requires.wider) in
    ap (λ d. c.args.x + c.args.x / 2 ^ (c.args.n - 1) * d) e
    ∙ add_top_bit_mul c.args.x c.args.n c.args.to c.requires.width.least c.requires.x_fits

pub returns-clause-fits : goal.returns-clause-fits
returns-clause-fits c = rw (returns-clause-value c) (sign_extended_below c.args.x c.args.n c.args.to c.requires.x_fits c.requires.wider)
