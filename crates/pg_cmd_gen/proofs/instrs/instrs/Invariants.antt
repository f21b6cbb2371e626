use Rattle.pg_cmd_gen.proofs.FromState.{AreBegun}
use Rattle.pg_cmd_gen.proofs.instrs.instrs.Given as goal

abbrev pub invariant-loop-k : goal.invariant-loop-k
invariant-loop-k l = AreBegun l.fn.draws.state l.instrs l.k l.draws.state
