use Rattle.std.proofs.Common.{length}
use Rattle.pg_sat.proofs.FlagLemmas.{within_next}
use Rattle.pg_sat.proofs.flags.Flags.show.Goals as goal

pub loop-literal-preserved : goal.loop-literal-preserved
loop-literal-preserved c = within_next (length c.args.self.now) c.args.clause.now c.loop-literal.literal-index c.loop-literal-test.true c.loop-literal.invariant
