use Rattle.pg_symex.proofs.RunLaw.{all_run_right}
use Rattle.pg_ask.proofs.AssignmentsLaw.{assignments-show}
use Rattle.pg_ask.proofs.laws.assignments_show.Goals as goal

pub returns : goal.returns
returns c = assignments-show c.args.desc.now (all_run_right c.args.desc.now)
