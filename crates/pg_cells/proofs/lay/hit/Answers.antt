use Rattle.pg_cells.proofs.LayLaws.{hit_step}
use Rattle.pg_cells.proofs.lay.hit.Goals as goal

pub returns-clause-made : goal.returns-clause-made
returns-clause-made c = hit_step c.and.result _ c.args.address.now c.args.write.now c.as_slice.result.now c.in_ok-same.same _ _ c.as_slice.ensures.gates c.in_ok-same.ensures.made c.and.ensures.made
