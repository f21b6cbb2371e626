-- A cell that may not follow is no cell of a list; one that may is one more.
use Rattle.std.proofs.Common.{◌≡◌, ◌<◌, ◌≤◌, subst, arith}
use Rattle.std.proofs.lemmas.Bool.{false≢true}
use Rattle.pg_word.specs.Sparse.{address_at}
use Rattle.pg_word.proofs.SparseLemmas.{low_not_listed, one_more_listed}
use Rattle.pg_word.proofs.sparse.are_listed.Goals as goal

pub returns-then-from-least : goal.returns-then-from-least
returns-then-from-least c =
    let at : c.from.result ≡ address_at c.args.cells.now c.loop-cell.cell-index = c.from.ensures in
    let low : address_at c.args.cells.now c.loop-cell.cell-index < c.loop-cell.least = subst (λ n. n < c.loop-cell.least) at c.if-from-least.true in
    (λ f. absurd (false≢true f), λ k. absurd (low_not_listed c.args.cells.now c.loop-cell.cell-index c.loop-cell.least (omega arith) c.loop-cell.invariant low k))

pub loop-cell-preserved : goal.loop-cell-preserved
loop-cell-preserved c =
    let at : c.from.result ≡ address_at c.args.cells.now c.loop-cell.cell-index = c.from.ensures in
    let here : c.from-least.result ≡ address_at c.args.cells.now c.loop-cell.cell-index = c.from-least.ensures in
    let high : c.loop-cell.least ≤ address_at c.args.cells.now c.loop-cell.cell-index = subst (λ n. c.loop-cell.least ≤ n) at c.if-from-least.false in
    one_more_listed c.args.cells.now c.loop-cell.cell-index c.loop-cell.least _ (omega arith) c.loop-cell.invariant (λ e. omega arith) high (omega arith)
