use Rattle.std.proofs.Common.{arith}
use Rattle.pg_sat.proofs.Drawn.{listed_on, listed_whole}
use Rattle.pg_sat.proofs.draw.push_literals.Goals as goal

pub loop-variable-preserved : goal.loop-variable-preserved
loop-variable-preserved c = listed_on _ _ _ _ _ _ c.loop-variable-test.true c.in_ok-push_literal.ensures c.loop-variable.invariant

pub returns : goal.returns
returns c = listed_whole _ _ _ _ _ (omega (arith, c.loop-variable-test.false)) c.loop-variable.invariant
