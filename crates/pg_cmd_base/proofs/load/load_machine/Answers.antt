use Rattle.std.proofs.Common.{Ok, Err, IfSome, sym, ap, subst}
use Rattle.pg_mach_ready.specs.declared.machine.Machine.{Machine}
use Rattle.pg_report.specs.declared.line.DescriptionLine.TheVariants as told_line
use Rattle.pg_report.specs.declared.line.RefusalLine.TheVariants.{Description}
use Rattle.pg_read.specs.Answer.{most_desc_bytes}
use Rattle.pg_cmd_base.specs.Descriptions.{TextDue, DescDue}
use Rattle.pg_cmd_base.specs.Answering.{Comes}
use Rattle.pg_cmd_base.proofs.FileLemmas.{file-stops, file-refused, file-came}
use Rattle.pg_cmd_base.proofs.load.load_machine.Goals as goal

pub returns-in-Err-clause-comes : goal.returns-in-Err-clause-comes
unfolding DescDue
returns-in-Err-clause-comes g c =
    let told = g.F.Shelf.files c.args.shelf.now in
    let before = g.F.Shelf.reads c.args.shelf.now in
    let after = g.F.Shelf.reads c.load_file.new.shelf in
    subst (λ s. Comes (λ (m : Machine). m.desc) (DescDue told c.args.name.now) before after (Err s)) (sym c.stop_of.ensures)
    (file-stops (λ (m : Machine). m.desc) Description told c.args.name.now most_desc_bytes told_line.Long TextDue before after c.in-Err.fault
    (λ e. c.in-Err.ensures.missing (ap Err e)) (λ e. c.in-Err.ensures.long (ap Err e)) (λ e. c.in-Err.ensures.failed (ap Err e)))

pub returns-in-Ok-machine_of-clause-comes : goal.returns-in-Ok-machine_of-clause-comes
unfolding DescDue
returns-in-Ok-machine_of-clause-comes g c =
    file-came Description (g.F.Shelf.files c.args.shelf.now) c.args.name.now most_desc_bytes told_line.Long TextDue c.in-Ok.bytes.items c.in-Ok-machine_of.machine.desc
    c.in-Ok.ensures.ok
    (subst (λ text. TextDue text (Ok c.in-Ok-machine_of.machine.desc)) c.deref.ensures.value c.in-Ok-machine_of.ensures.ok)

pub returns-clause-comes : goal.returns-clause-comes
unfolding DescDue
returns-clause-comes g c =
    file-refused Description (g.F.Shelf.files c.args.shelf.now) c.args.name.now most_desc_bytes told_line.Long TextDue c.in-Ok.bytes.items c.in-Err-Some.line
    c.in-Ok.ensures.ok
    (subst (λ text. TextDue text (Err c.in-Err-Some.line)) c.deref.ensures.value
    (subst (λ o. IfSome o (λ line. TextDue c.deref.result.now (Err line))) c.in-Err-Some.field-0-is c.in-Err-Some.ensures.refused))
