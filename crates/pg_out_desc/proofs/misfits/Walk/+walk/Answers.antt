use Rattle.std.proofs.Common.{arith}
use Rattle.pg_out_desc.proofs.MisfitLemmas.{item_counts, held-counts, other-counts}
use Rattle.pg_out_desc.proofs.misfits.Walk.+walk.Goals as goal

pub block-statement-requires : goal.block-statement-requires
block-statement-requires t c =
    let s = c.stmt-item.result in
    let fewer = item_counts c.args.stmts.now c.loop-stmt.stmt-index s s c.loop-stmt-test.true c.stmt-item.is in
    omega (arith, fewer)

pub statement-block-requires : goal.statement-block-requires
statement-block-requires t c =
    let fewer = held-counts c.args.stmt.now c.in-If.c c.in-If.held c.as_slice.result.now c.in-If.other c.in-If.is c.as_slice.ensures in
    omega (arith, fewer)

pub statement-block-requires-in-Some : goal.statement-block-requires-in-Some
statement-block-requires-in-Some t c =
    let fewer = other-counts c.args.stmt.now c.in-If.c c.in-If.held c.in-Some.stmts c.as_slice-in-Some.result.now c.in-If.other c.in-If.is c.in-Some.is c.as_slice-in-Some.ensures in
    omega (arith, fewer)
