use Rattle.pg_symex.proofs.RunLaw.{all_run_right}
use Rattle.pg_ask.proofs.NamesLaw.{answers-name}
use Rattle.pg_ask.proofs.laws.answers_name_pairs.Goals as goal

pub returns : goal.returns
returns c = answers-name c.args.desc.now (all_run_right c.args.desc.now)
