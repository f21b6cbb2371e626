use Rattle.pg_symex.proofs.RunLaw.{all_run_right}
use Rattle.pg_ask.proofs.PairsLaw.{pairs-have}
use Rattle.pg_ask.proofs.laws.pairs_have_assignments.Goals as goal

pub returns : goal.returns
returns c = pairs-have c.args.desc.now (all_run_right c.args.desc.now)
