-- No node is made, and its law says what the string is worth.
use Rattle.std.proofs.Common.{arith}
use Rattle.std.proofs.lemmas.Grind.{common_steps}
use Rattle.pg_vec.proofs.OpLaws.{ext_worth}
use Rattle.pg_vec.proofs.ops.ext.Goals as goal

pub returns-clause-worth : goal.returns-clause-worth
returns-clause-worth c = ext_worth _ _ c.args.x.now c.args.to c.args.circuit.now.circuit c.requires.there c.requires.wider (grind (arith, common_steps))
