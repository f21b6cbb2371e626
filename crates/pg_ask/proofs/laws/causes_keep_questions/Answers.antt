use Rattle.pg_ask.proofs.CausesLaw.{causes-keep}
use Rattle.pg_ask.proofs.laws.causes_keep_questions.Goals as goal

pub returns : goal.returns
returns c = causes-keep c.args.desc.now
