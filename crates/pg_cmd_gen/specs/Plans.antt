-- What the code has for the work of `gen`, as that of the definition.
use Rattle.pg_run_guests.specs.Runs.{GuestRun, run_of}
use Rattle.pg_cmd_certs.specs.Judged.{Judged}
use Rattle.pg_cmd_certs.specs.WrittenViews.{written}
use Rattle.pg_cmd_gen.specs.declared.generating.plan.GenPlan.{GenPlan}
use Rattle.pg_cmd_gen.specs.Generating.{gen_slice, gen_steps}

-- the machine that was made, with what is kept of its certificate
abbrev pub judged_input : GenPlan → Judged
judged_input p = written p.cert

-- the run of images that were made of a number
abbrev pub run_of_plan : GenPlan → GuestRun
run_of_plan p = run_of p.cert.judged.machine p.images gen_slice gen_steps
