-- One more cell, and at the end all of them.
use Rattle.std.proofs.Common.{arith}
use Rattle.pg_vec.proofs.Loops.{folded_next, folded_all}
use Rattle.pg_cells.proofs.ConsistentLaws.{whole-later}
use Rattle.pg_cells.proofs.AgreeSteps.{row_none, row_next, whole_item}
use Rattle.pg_cells.proofs.agree.agree_with_all.Goals as goal

pub agree-requires-clause-left : goal.agree-requires-clause-left
agree-requires-clause-left c = whole-later _ _ _ _ _ c.args.cell.now c.loop-other.invariant.kept c.requires.cell

pub agree-requires-clause-right : goal.agree-requires-clause-right
agree-requires-clause-right c = whole_item _ _ _ _ _ c.args.others.now c.loop-other.other-index c.other-item.result c.loop-other.invariant.kept c.requires.others (omega arith) c.other-item.is

pub loop-other-preserved : goal.loop-other-preserved
loop-other-preserved c =
    folded_next _ _ _ _ _ _ _ c.in_ok-all.all _ _ c.loop-other.invariant c.agree.ensures.kept c.in_ok-all.ensures.there
    (row_next _ c.loop-other.all c.args.cell.now c.args.others.now c.loop-other.other-index c.other-item.result c.in_ok-all.all _ (omega arith) c.other-item.is c.in_ok-all.ensures.made)

pub returns-clause-made : goal.returns-clause-made
returns-clause-made c =
    folded_all _ _ _ _ _ _ _ c.loop-other.invariant (row_none c.loop-other.circuit.nodes c.loop-other.all c.args.cell.now c.args.others.now c.loop-other.other-index (omega arith))
