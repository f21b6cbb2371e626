-- By whether something is left.
use Rattle.std.proofs.Common.{sym, ◌∙◌}
use Rattle.pg_vec.proofs.Steps.{carry_into_none, carry_into_some}
use Rattle.pg_vec.proofs.gate.carry_into.Goals as goal

pub returns-then-is_empty-clause-made : goal.returns-then-is_empty-clause-made
returns-then-is_empty-clause-made c = carry_into_none c.args.rest.now _ c.args.x c.args.y c.args.half c.args.carry (sym c.is_empty.ensures ∙ c.if-is_empty.true)

pub returns-else-is_empty-clause-made : goal.returns-else-is_empty-clause-made
returns-else-is_empty-clause-made c = carry_into_some c.carry_out.result c.args.rest.now _ c.args.x c.args.y c.args.half c.args.carry _ (sym c.is_empty.ensures ∙ c.if-is_empty.false) c.carry_out.ensures.made
