use Rattle.std.specs.declared.alloc.AllocError.{AllocError}
use Rattle.pg_replay.proofs.StepLemmas.{left_step}
use Rattle.pg_interp.specs.declared.effect.Outcome.TheVariants.{MemTrap, Trap, NoPattern, Done}
use Rattle.pg_replay.proofs.steps.after.Goals as goal

pub returns-in-MemTrap-clause-state : goal.returns-in-MemTrap-clause-state
returns-in-MemTrap-clause-state c =
    left_step AllocError c.args.m.now.desc c.args.s.now c.window_of.result.state.now c.execute.result MemTrap c.trap.result c.window_of.ensures c.in-MemTrap.is c.execute.ensures c.trap.ensures.state

pub returns-in-Trap-clause-state : goal.returns-in-Trap-clause-state
returns-in-Trap-clause-state c =
    left_step AllocError c.args.m.now.desc c.args.s.now c.window_of.result.state.now c.execute.result Trap c.trap-in-Trap.result c.window_of.ensures c.in-Trap.is c.execute.ensures c.trap-in-Trap.ensures.state

pub returns-in-NoPattern-clause-state : goal.returns-in-NoPattern-clause-state
returns-in-NoPattern-clause-state c =
    left_step AllocError c.args.m.now.desc c.args.s.now c.window_of.result.state.now c.execute.result NoPattern c.trap-in-NoPattern.result c.window_of.ensures c.in-NoPattern.is c.execute.ensures c.trap-in-NoPattern.ensures.state

pub returns-in-Done-clause-state : goal.returns-in-Done-clause-state
returns-in-Done-clause-state c =
    left_step AllocError c.args.m.now.desc c.args.s.now c.window_of.result.state.now c.execute.result (Done c.in-Done.effect) c.done.result c.window_of.ensures c.in-Done.is c.execute.ensures c.done.ensures.state
