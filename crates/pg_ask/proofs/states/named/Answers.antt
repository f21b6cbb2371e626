use Rattle.std.proofs.Common.{◌≤◌, length, sym, subst}
use Rattle.pg_cells.specs.declared.cell.Cell.{Cell}
use Rattle.pg_ask.proofs.StatesSteps.{named_more, named_over}
use Rattle.pg_ask.proofs.states.named.Goals as goal

pub address-at-requires : goal.address-at-requires
address-at-requires c =
    subst (λ (x : Cell). length x.address ≤ 32) (sym c.cell-item.is) (c.requires c.loop-cell.cell-index c.cell-item.result c.loop-cell-test.true)

pub loop-cell-preserved : goal.loop-cell-preserved
loop-cell-preserved c =
    named_more c.args.assignment.now c.args.cells.now c.loop-cell.cell-index c.loop-cell.all.items c.push.new.self.items c.address-at.result c.number-word.result c.cell-item.result
    c.loop-cell-test.true c.cell-item.is c.address-at.ensures c.number-word.ensures c.in_ok-push.ensures.items c.loop-cell.invariant

pub returns : goal.returns
returns c = named_over c.args.assignment.now c.args.cells.now c.loop-cell.cell-index c.loop-cell.all.items c.loop-cell-test.false c.loop-cell.invariant
