use Rattle.std.proofs.Common.{◌+◌, ◌*◌, ◌≤◌, arith}
use Rattle.pg_word.proofs.Numbers.{below_pow_wider}
use Rattle.pg_word.proofs.Words.{cause_above_below}
use Rattle.pg_word.proofs.psw.pack_trap.Goals as goal

pub above-requires-clause-all_fit : goal.above-requires-clause-all_fit
above-requires-clause-all_fit c =
    let le : 3 * c.args.shape.now.a + 3 ≤ c.args.shape.now.w = rw c.if-shape.true at c.requires.shape.psw_fits in
    cause_above_below c.args.shape.now.a 64 c.from.result c.pack-word.result c.pack-word.ensures.high (omega arith) (omega arith)

pub returns-then-shape-clause-fits : goal.returns-then-shape-clause-fits
returns-then-shape-clause-fits c =
    let le : 3 * c.args.shape.now.a + 3 ≤ c.args.shape.now.w = rw c.if-shape.true at c.requires.shape.psw_fits in
    rw c.above.ensures (cause_above_below c.args.shape.now.a _ c.from.result c.pack-word.result c.pack-word.ensures.high (omega arith) le)

pub returns-else-shape-clause-fits : goal.returns-else-shape-clause-fits
returns-else-shape-clause-fits c =
    below_pow_wider _ _ _ c.pack-word.ensures.high (rw c.if-shape.false at c.requires.shape.psw_fits)
