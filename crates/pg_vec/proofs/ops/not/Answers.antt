-- No node is made, and its law says what the string is worth.
use Rattle.std.proofs.Common.{rules}
use Rattle.pg_vec.proofs.OpLaws.{not_worth}
use Rattle.pg_vec.proofs.ops.not.Goals as goal

pub returns-clause-worth : goal.returns-clause-worth
returns-clause-worth c = not_worth _ _ c.args.x.now c.args.circuit.now.circuit c.requires (search rules)
