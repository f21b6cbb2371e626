use Rattle.pg_symex.proofs.RunLaw.{all_run_right}
use Rattle.pg_ask.proofs.ExactLaw.{questions-exact}
use Rattle.pg_ask.proofs.laws.questions_are_exact.Goals as goal

pub returns : goal.returns
returns c = questions-exact c.args.desc.now (all_run_right c.args.desc.now)
