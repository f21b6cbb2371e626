-- Each cell of the list is settled where the first window is zero, and so each such address at which the second is not.
use Rattle.std.proofs.Common.{◌≡◌, ℕ, ◌-◌, ◌<◌, ◌≤◌, length, slice_get, Some, below_more, subst, arith}
use Rattle.pg_word.specs.Sparse.{address_at}
use Rattle.pg_out_pair.specs.Telling.{IsSettled}
use Rattle.pg_out_pair.specs.Views.{seen_window}
use Rattle.pg_out_pair.proofs.ListedLemmas.{at_listed}
use Rattle.pg_out_pair.proofs.differences.push_second.Goals as goal

pub loop-cell-preserved : goal.loop-cell-preserved
loop-cell-preserved c = record {
  each = c.in_ok-push_cell_second.ensures.each;
  kept = λ b h. c.in_ok-push_cell_second.ensures.kept b (c.loop-cell.invariant.kept b h);
  settled = below_more _ _ (λ k l low zero. c.in_ok-push_cell_second.ensures.kept _ (c.loop-cell.invariant.settled k l low zero)) c.in_ok-push_cell_second.ensures.here;
}

pub returns-clause-whole : goal.returns-clause-whole
returns-clause-whole c =
    let y = c.args.y.now in
    let xs = seen_window c.args.x.now in
    let P : ℕ → Type 0 = λ a. slice_get xs a ≡ Some 0 → IsSettled xs (seen_window y) c.loop-cell.list.items a in
    at_listed y.state.now.size y.psw y.state.now.cells P
    (subst (λ cs. (k : ℕ) → k < length cs → y.psw.l ≤ address_at cs k → P (address_at cs k - y.psw.l)) c.as_slice-cell-items.ensures.cells
    (λ k l. c.loop-cell.invariant.settled k (omega (arith, c.loop-cell-test.false, l))))
