use Rattle.std.proofs.Common.{◌∙◌}
use Rattle.pg_symex.proofs.Steps.{literal_all}
use Rattle.pg_symex.proofs.literal.literal.Goals as goal

pub returns : goal.returns
returns c = c.from_vec.ensures ∙ literal_all _ _ _ _ _ c.loop-test.false c.loop.invariant.built
