-- Each cell of the list is settled, and so each address at which the first window is not zero.
use Rattle.std.proofs.Common.{ℕ, ◌-◌, ◌<◌, ◌≤◌, length, below_more, subst, arith}
use Rattle.pg_word.specs.Sparse.{address_at}
use Rattle.pg_out_pair.specs.Telling.{IsSettled}
use Rattle.pg_out_pair.specs.Views.{seen_window}
use Rattle.pg_out_pair.proofs.ListedLemmas.{at_listed}
use Rattle.pg_out_pair.proofs.differences.push_first.Goals as goal

pub loop-cell-preserved : goal.loop-cell-preserved
loop-cell-preserved c = record {
  each = c.in_ok-push_cell_first.ensures.each;
  settled = below_more _ _ (λ k l low. c.in_ok-push_cell_first.ensures.kept _ (c.loop-cell.invariant.settled k l low)) c.in_ok-push_cell_first.ensures.here;
}

pub returns-clause-whole : goal.returns-clause-whole
returns-clause-whole c =
    let x = c.args.x.now in
    let P : ℕ → Type 0 = λ a. IsSettled (seen_window x) (seen_window c.args.y.now) c.loop-cell.list.items a in
    at_listed x.state.now.size x.psw x.state.now.cells P
    (subst (λ cs. (k : ℕ) → k < length cs → x.psw.l ≤ address_at cs k → P (address_at cs k - x.psw.l)) c.as_slice-cell-items.ensures.cells
    (λ k l. c.loop-cell.invariant.settled k (omega (arith, c.loop-cell-test.false, l))))
