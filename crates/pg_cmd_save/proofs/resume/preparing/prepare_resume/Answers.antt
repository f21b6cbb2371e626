use Rattle.std.proofs.Common.{◌≡◌, Option, subst, arith}
use Rattle.pg_edge.specs.Shelf.{Files}
use Rattle.pg_cmd_base.specs.Descriptions.{DescDue}
use Rattle.pg_mach_ready.specs.declared.machine.Machine.{Machine}
use Rattle.pg_cmd_base.specs.Answering.{Comes}
use Rattle.pg_cmd_base.proofs.StepLemmas.{comes-stopped, comes-behind}
use Rattle.pg_cmd_save.specs.Plans.{resume_run}
use Rattle.pg_cmd_save.specs.Resume.{ResumeDue, behind_desc}
use Rattle.pg_cmd_save.proofs.resume.preparing.prepare_resume.Goals as goal

-- the description stops it
pub returns-in-Err-clause-comes : goal.returns-in-Err-clause-comes
unfolding ResumeDue
returns-in-Err-clause-comes g c =
    let r = c.args.words.now in
    let told = g.F.Shelf.files c.args.shelf.now in
    comes-stopped (λ (m : Machine). m.desc) resume_run (DescDue told r.desc) (behind_desc r told) _ _ _ c.in-Err.stop c.in-Err.ensures.comes (omega arith)

-- what is behind it says what comes
pub returns-in-Ok-clause-comes : goal.returns-in-Ok-clause-comes
unfolding ResumeDue
returns-in-Ok-clause-comes g c =
    let r = c.args.words.now in
    let told = g.F.Shelf.files c.args.shelf.now in
    let d = c.in-Ok.machine.desc in
    let mid = g.F.Shelf.reads c.load_machine.new.shelf in
    let after = g.F.Shelf.reads c.load_behind_machine.new.shelf in
    let rest = subst (λ (files : Option Files). Comes resume_run (behind_desc r files d) mid after c.load_behind_machine.result) c.load_machine.ensures.reads.same_files
    c.load_behind_machine.ensures.comes in
    comes-behind resume_run (DescDue told r.desc) (behind_desc r told) d _ mid after c.load_behind_machine.result c.in-Ok.ensures.comes c.load_machine.ensures.reads.later rest
