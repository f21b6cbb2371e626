use Rattle.pg_symex.proofs.RunLaw.{all_run_right}
use Rattle.pg_symex.proofs.laws.runs_are_right.Goals as goal

pub returns : goal.returns
returns c = all_run_right c.args.desc.now
