use Rattle.std.proofs.Common.{arith, subst, sym, ap, ◌∙◌}
use Rattle.std.specs.Prelude.{nat_lt}
use Rattle.std.specs.List.{list_all}
use Rattle.pg_word.specs.Sparse.{IsCellList}
use Rattle.pg_cert_drawn.proofs.PushedRows.{last_below}
use Rattle.pg_cert_drawn.proofs.rows.lie_below.Goals as goal

pub returns : goal.returns
returns c =
    let same = c.as_slice-cells.ensures.cells in
    last_below c.as_slice-cells.result.now c.args.first (subst IsCellList (sym same) c.as_slice-cells.ensures.listed) (omega arith)
    ∙ ap (list_all (λ cell. nat_lt cell.0 c.args.first)) same
