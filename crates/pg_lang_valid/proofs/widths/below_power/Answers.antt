use Rattle.std.proofs.Common.{◌<◌, ◌≤◌, ◌^◌, arith}
use Rattle.std.proofs.Math.Pow.{pow_mono}
use Rattle.pg_lang_valid.proofs.widths.below_power.Goals as goal

pub returns-else-bits-lt64 : goal.returns-else-bits-lt64
returns-else-bits-lt64 c =
    let p : 2 ^ 64 ≤ 2 ^ c.args.bits = pow_mono c.if-bits-lt64.false in
    let h : c.args.number < 2 ^ c.args.bits = omega arith in
    grind arith
