-- What the code has for the work of `bare`, as that of the definition.
use Rattle.pg_cmd_plain.specs.Bare.{BareRun}
use Rattle.pg_cmd_plain.specs.declared.bare.plan.BarePlan.{BarePlan}

abbrev pub bare_run : BarePlan → BareRun
bare_run p = record { desc = p.machine.desc; image = p.image; grant = p.grant; steps = p.steps }
