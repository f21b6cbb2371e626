use Rattle.std.proofs.Common.{arith}
use Rattle.pg_replay.proofs.StateLemmas.{state-least}
use Rattle.pg_replay.proofs.steps.trap.Goals as goal

pub cell-requires : goal.cell-requires
cell-requires c = omega (arith, state-least c.args.m.now.desc c.args.s.now.size c.args.s.now.psw c.args.s.now.cells c.requires)

pub stored-requires : goal.stored-requires
stored-requires c = omega (arith, state-least c.args.m.now.desc c.args.s.now.size c.args.s.now.psw c.args.s.now.cells c.requires)
