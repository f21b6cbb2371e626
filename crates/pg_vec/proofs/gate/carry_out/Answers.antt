-- One step after another.
use Rattle.pg_vec.proofs.Steps.{carry_step}
use Rattle.pg_vec.proofs.gate.carry_out.Goals as goal

pub returns-clause-made : goal.returns-clause-made
returns-clause-made c = carry_step c.or.result _ c.args.x c.args.y c.args.half c.args.carry c.in_ok-both.both c.in_ok-passed.passed _ _ _ c.in_ok-both.ensures.made c.in_ok-passed.ensures.made c.or.ensures.made
