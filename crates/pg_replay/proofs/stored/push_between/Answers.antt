-- What was taken of the list is below its next cell.
use Rattle.std.proofs.Common.{sym, subst, ◌∙◌}
use Rattle.pg_word.specs.Sparse.{IsPastLast, address_at}
use Rattle.pg_replay.proofs.StoredLemmas.{next_past}
use Rattle.pg_replay.proofs.stored.push_between.Goals as goal

pub push_if-requires-clause-past_last : goal.push_if-requires-clause-past_last
push_if-requires-clause-past_last c = λ kept.
    subst (λ cells. IsPastLast cells (address_at c.args.cells.now c.loop-cell.cell-index)) (sym c.loop-cell.invariant.cells)
    (next_past c.args.state.now.cells c.args.cells.now c.args.from c.args.to c.loop-cell.cell-index c.requires.listed c.loop-cell-test.true c.requires.below (sym c.is_between.ensures ∙ kept))
