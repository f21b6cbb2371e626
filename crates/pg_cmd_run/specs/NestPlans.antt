-- What the code has for the run, as that of the definition.
use Rattle.pg_cmd_run.specs.Nest.{NestRun}
use Rattle.pg_cmd_run.specs.declared.nest_plan.NestPlan.{NestPlan}

abbrev pub nest_run : NestPlan → NestRun
nest_run p = record { desc = p.judged.machine.desc; image = p.image; grant = p.grant; depth = p.depth; steps = p.steps; report = p.judged.report }
