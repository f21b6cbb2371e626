use Rattle.pg_nest.proofs.LevelLemmas.{one-state, one-tally, one-bottom}
use Rattle.pg_nest.proofs.level.LevelHardware.step.Goals as goal

pub returns-clause-state : goal.returns-clause-state
returns-clause-state g c = one-state c.args.m.now.desc c.run.result _ _ c.run.ensures.ran

pub returns-clause-tally : goal.returns-clause-tally
returns-clause-tally g c = one-tally c.args.m.now.desc c.run.result _ _ c.run.ensures.ran

pub returns-clause-bottom : goal.returns-clause-bottom
returns-clause-bottom g c = one-bottom c.args.m.now.desc c.run.result _ _ c.run.ensures.ran
