use Rattle.std.proofs.Common.{◌≡◌, ◌+◌, ◌*◌, ◌^◌, ◌≤◌, arith}
use Rattle.std.proofs.Math.Pow.{pow_mono}
use Rattle.pg_word.specs.Psw.{packed}
use Rattle.pg_word.proofs.Words.{packed_below}
use Rattle.pg_word.proofs.psw.pack.Goals as goal

pub above-requires-clause-all_fit : goal.above-requires-clause-all_fit
above-requires-clause-all_fit c =
    let a = c.args.shape.now.a in
    let e : c.above-l.result * 2 ^ a + c.from-3.result ≡ packed a c.args.psw = grind arith in
    let le : 3 * a + 1 ≤ 64 = omega arith in
    omega (arith, e, pow_mono le, packed_below a c.args.psw c.requires.fields)

pub returns-clause-high : goal.returns-clause-high
returns-clause-high c =
    let e : c.above.result ≡ packed c.args.shape.now.a c.args.psw = grind arith in
    rw e (packed_below _ _ c.requires.fields)
