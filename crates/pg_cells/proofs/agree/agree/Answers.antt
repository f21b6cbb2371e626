use Rattle.std.proofs.Common.{sym}
use Rattle.pg_cells.proofs.AgreeSteps.{pair_apart, pair_alike}
use Rattle.pg_cells.proofs.agree.agree.Goals as goal

pub returns-then-is_same-clause-made : goal.returns-then-is_same-clause-made
returns-then-is_same-clause-made c =
    pair_apart _ c.args.so_far c.args.c.now c.args.d.now c.in_ok-at.at c.constant-never.result _ c.as_slice.result.now c.as_slice-2.result.now c.as_slice.ensures.gates c.as_slice-2.ensures.gates
    c.in_ok-at.ensures.made c.constant-never.ensures (sym c.if-is_same.ensures)

pub returns-else-is_same-clause-made : goal.returns-else-is_same-clause-made
returns-else-is_same-clause-made c =
    pair_alike c.alike.result _ c.args.so_far c.args.c.now c.args.d.now c.in_ok-at.at c.constant-never.result _ _ c.as_slice.result.now c.as_slice-2.result.now
    c.as_slice-else-is_same.result.now c.as_slice-else-is_same-2.result.now c.as_slice.ensures.gates c.as_slice-2.ensures.gates c.as_slice-else-is_same.ensures.gates c.as_slice-else-is_same-2.ensures.gates
    c.in_ok-at.ensures.made c.constant-never.ensures (sym c.if-is_same.ensures) c.alike.ensures.made
