-- What the code has for a run, as that of the definition.
use Rattle.pg_cmd_run.specs.Run.{JudgedRun}
use Rattle.pg_cmd_run.specs.declared.plan.RunPlan.{RunPlan}

-- images as guests, with what was kept of a certificate
abbrev pub judged_run : RunPlan → JudgedRun
judged_run p = record { desc = p.judged.machine.desc; images = p.images; slice = p.slice; steps = p.steps; grant = p.grant; report = p.judged.report }
