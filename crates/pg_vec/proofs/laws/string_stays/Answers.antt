use Rattle.pg_vec.proofs.Kept.{all_there_later}
use Rattle.pg_vec.proofs.EachLaws.{number-kept}
use Rattle.pg_vec.proofs.laws.string_stays.Goals as goal

pub returns-clause-there : goal.returns-clause-there
returns-clause-there c = all_there_later _ _ c.args.gates.now c.requires.front c.requires.there

pub returns-clause-number : goal.returns-clause-number
returns-clause-number c = number-kept c.args.inputs.now c.args.nodes.now c.args.later.now c.args.gates.now c.requires.front c.requires.there
