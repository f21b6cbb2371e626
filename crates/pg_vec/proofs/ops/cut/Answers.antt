-- No node is made, and its law says what the string is worth.
use Rattle.std.proofs.Common.{rules}
use Rattle.pg_vec.proofs.OpLaws.{cut_worth}
use Rattle.pg_vec.proofs.ops.cut.Goals as goal

pub returns-clause-worth : goal.returns-clause-worth
returns-clause-worth c = cut_worth _ _ c.args.x.now c.args.h c.args.k c.args.circuit.now.circuit c.requires.there c.requires.order c.requires.within (search rules)
