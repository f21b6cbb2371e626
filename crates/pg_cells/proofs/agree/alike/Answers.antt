use Rattle.pg_cells.proofs.AgreeSteps.{alike_step}
use Rattle.pg_cells.proofs.agree.alike.Goals as goal

pub returns-clause-made : goal.returns-clause-made
returns-clause-made c =
    alike_step c.and-2.result _ c.args.so_far c.args.at c.args.x.now c.args.y.now c.in_ok-same.same c.not-differ.result c.in_ok-odd.odd c.not-fine.result _ _ _
    c.in_ok-same.ensures.made c.not-differ.ensures c.in_ok-odd.ensures.made c.not-fine.ensures c.and-2.ensures.made
