use Rattle.pg_proof.proofs.ReplayLemmas.{few_either}
use Rattle.pg_verify.proofs.steps.remove.Goals as goal

pub returns-in-Ok-clause-few : goal.returns-in-Ok-clause-few
returns-in-Ok-clause-few c = few_either c.remove.result c.args.checker.now c.remove.new.self c.args.numbers.now c.remove.ensures.removed c.remove.ensures.kept
