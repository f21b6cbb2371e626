use Rattle.pg_symex.proofs.RunLaw.{all_run_right}
use Rattle.pg_ask.proofs.QuestionLaws.{questions-are}
use Rattle.pg_ask.proofs.laws.questions_are_circuits.Goals as goal

pub returns : goal.returns
returns c = questions-are c.args.desc.now (all_run_right c.args.desc.now)
