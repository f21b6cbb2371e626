-- What the code has for a run, as that of the definition.
use Rattle.pg_cmd_plain.specs.Bare.{BareRun}
use Rattle.pg_cmd_run.specs.Run.{JudgedRun}
use Rattle.pg_prog_go.specs.declared.plan.BareGoPlan.{BareGoPlan}
use Rattle.pg_prog_go.specs.declared.plan.GoPlan.{GoPlan}

-- images as guests, with what was kept of a certificate
abbrev pub judged_go : GoPlan → JudgedRun
judged_go p = record { desc = p.judged.machine.desc; images = p.images; slice = p.slice; steps = p.steps; grant = p.grant; report = p.judged.report }

-- a bare machine
abbrev pub bare_go : BareGoPlan → BareRun
bare_go p = record { desc = p.machine.desc; image = p.image; grant = p.grant; steps = p.steps }
