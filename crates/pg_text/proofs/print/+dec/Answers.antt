use Rattle.std.proofs.Common.{◌/◌, ◌<◌, lit<, length, ap, sym, arith}
use Rattle.std.proofs.lemmas.Fmt.{decimal_digit, decimal_step, length-decimal-le}
use Rattle.pg_text.proofs.print.+dec.Goals as goal

pub returns-then-value-lt10 : goal.returns-then-value-lt10
returns-then-value-lt10 t c = rw (c.push.ensures.items, c.new-digit.ensures) (sym (decimal_digit c.args.value c.if-value-lt10.true))

pub push-requires-2 : goal.push-requires-2
push-requires-2 t c =
    let room : length c.dec-digits.result.items < 20 =
    omega (arith, ap length c.dec-digits.ensures, length-decimal-le 19 (c.args.value / 10) (lit< tt) (omega arith) (omega arith)) in
    (lit< tt, room)

pub returns : goal.returns
returns t c = rw (c.push-2.ensures.items, c.dec-digits.ensures) (sym (decimal_step c.args.value c.if-value-lt10.false (omega arith)))
