use Rattle.std.proofs.Common.{◌≡◌, ◌<◌, ◌^◌, length, lit<, ap, arith, rules}
use Rattle.std.proofs.lemmas.Fmt.{length-decimal-le}
use Rattle.arrayvec.specs.ArrayVec.{array_vec_len}
use Rattle.pg_move.proofs.lines.steps_line.Goals as goal

pub returns-clause-len : goal.returns-clause-len
returns-clause-len c =
    let start : array_vec_len c.new-line.result ≡ 0 = search rules in
    let fits : c.from.result < 2 ^ 32 = omega (arith, c.from.ensures, c.ranges.steps.fits) in
    let len = length-decimal-le 10 c.from.result (lit< tt) (omega arith) (omega arith) in
    omega (arith, len, ap length c.as_slice.ensures.value, ap length c.dec.ensures, start, c.push.ensures.len, c.push-2.ensures.len, c.push-3.ensures.len)
