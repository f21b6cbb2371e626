use Rattle.pg_symex.proofs.RunLaw.{all_run_right}
use Rattle.pg_ask.proofs.AnswersLaw.{answers-show}
use Rattle.pg_ask.proofs.laws.answers_show.Goals as goal

pub returns : goal.returns
returns c = answers-show c.args.desc.now (all_run_right c.args.desc.now)
