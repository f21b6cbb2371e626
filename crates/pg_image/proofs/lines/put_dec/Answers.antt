use Rattle.std.proofs.Common.{◌<◌, ◌≤◌, ◌^◌, length, lit<, ap, arith}
use Rattle.std.proofs.lemmas.Fmt.{length-decimal-le}
use Rattle.pg_image.proofs.lines.put_dec.Goals as goal
use Rattle.pg_image.proofs.lines.put_dec.Goals.{After-as_slice}

-- a number of 32 bits has at most ten digits
is_short : (c : After-as_slice) → length c.as_slice.result.now ≤ 10
is_short c =
    let fits : c.from.result < 2 ^ 32 = omega (arith, c.from.ensures, c.ranges.value.fits) in
    let len = length-decimal-le 10 c.from.result (lit< tt) (omega arith) (omega arith) in
    omega (arith, len, ap length c.as_slice.ensures.value, ap length c.dec.ensures)

pub push-requires : goal.push-requires
push-requires c = omega (arith, is_short c)

pub returns-clause-len : goal.returns-clause-len
returns-clause-len c = omega (arith, is_short (goal.at.returns-clause-len c).After-as_slice, c.push.ensures.len)
