use Rattle.std.proofs.Common.{ℕ, List, Ok, Err, IfSome, sym, ap, subst}
use Rattle.pg_asm.specs.Sources.{most_source_bytes}
use Rattle.pg_report.specs.declared.line.SourceLine.TheVariants as told_source
use Rattle.pg_report.specs.declared.line.RefusalLine.TheVariants.{Source}
use Rattle.pg_cmd_base.specs.Answering.{Comes}
use Rattle.pg_cmd_base.proofs.FileLemmas.{file-stops, file-refused, file-came}
use Rattle.pg_cmd_plain.specs.Sources.{AssembledAs, SourceDue}
use Rattle.pg_cmd_plain.proofs.source.load_source.Goals as goal

pub returns-in-Err-clause-comes : goal.returns-in-Err-clause-comes
unfolding SourceDue
returns-in-Err-clause-comes g c =
    let told = g.F.Shelf.files c.args.shelf.now in
    let before = g.F.Shelf.reads c.args.shelf.now in
    let after = g.F.Shelf.reads c.load_file.new.shelf in
    subst (λ s. Comes (λ (image : List ℕ). image) (SourceDue told c.args.name.now c.args.machine.now.desc c.args.size) before after (Err s)) (sym c.stop_of.ensures)
    (file-stops (λ (image : List ℕ). image) Source told c.args.name.now most_source_bytes told_source.Long (AssembledAs c.args.machine.now.desc c.args.size) before after c.in-Err.fault
    (λ e. c.in-Err.ensures.missing (ap Err e)) (λ e. c.in-Err.ensures.long (ap Err e)) (λ e. c.in-Err.ensures.failed (ap Err e)))

pub returns-in-Ok-image_of-clause-comes : goal.returns-in-Ok-image_of-clause-comes
unfolding SourceDue
returns-in-Ok-image_of-clause-comes g c =
    file-came Source (g.F.Shelf.files c.args.shelf.now) c.args.name.now most_source_bytes told_source.Long (AssembledAs c.args.machine.now.desc c.args.size) c.in-Ok.bytes.items
    c.in-Ok-image_of.image c.in-Ok.ensures.ok
    (subst (λ text. AssembledAs c.args.machine.now.desc c.args.size text (Ok c.in-Ok-image_of.image)) c.deref.ensures.value c.in-Ok-image_of.ensures.ok)

pub returns-clause-comes : goal.returns-clause-comes
unfolding SourceDue
returns-clause-comes g c =
    file-refused Source (g.F.Shelf.files c.args.shelf.now) c.args.name.now most_source_bytes told_source.Long (AssembledAs c.args.machine.now.desc c.args.size) c.in-Ok.bytes.items
    c.in-Err-Some.line c.in-Ok.ensures.ok
    (subst (λ text. AssembledAs c.args.machine.now.desc c.args.size text (Err c.in-Err-Some.line)) c.deref.ensures.value
    (subst (λ o. IfSome o (λ line. AssembledAs c.args.machine.now.desc c.args.size c.deref.result.now (Err line))) c.in-Err-Some.field-0-is c.in-Err-Some.ensures.refused))
