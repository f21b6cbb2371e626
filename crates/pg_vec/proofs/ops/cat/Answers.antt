-- No node is made, and its law says what the string is worth.
use Rattle.std.proofs.Common.{rules}
use Rattle.pg_vec.proofs.OpLaws.{cat_worth}
use Rattle.pg_vec.proofs.ops.cat.Goals as goal

pub returns-clause-worth : goal.returns-clause-worth
returns-clause-worth c = cat_worth _ _ c.args.x.now c.args.y.now c.args.circuit.now.circuit c.requires.left c.requires.right (search rules)
