-- What the code has for the work of the commands, as that of their definitions.
use Rattle.pg_move.specs.Seen.{guest_of}
use Rattle.pg_cmd_save.specs.declared.save.plan.SavePlan.{SavePlan}
use Rattle.pg_cmd_save.specs.declared.resume.plan.ResumePlan.{ResumePlan}
use Rattle.pg_cmd_save.specs.Resume.{ResumeRun}
use Rattle.pg_cmd_save.specs.Save.{SaveRun}

abbrev pub save_run : SavePlan → SaveRun
save_run p = record { desc = p.judged.machine.desc; image = p.image; grant = p.grant; steps = p.steps; report = p.judged.report }

abbrev pub resume_run : ResumePlan → ResumeRun
resume_run p = record { desc = p.judged.machine.desc; saved = guest_of p.saved; skip = p.skip; steps = p.steps; report = p.judged.report }
