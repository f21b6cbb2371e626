use Rattle.std.proofs.Common.{ℕ, List, Ok, Err, IfSome, sym, ap, subst}
use Rattle.pg_image.specs.Images.{most_image_bytes}
use Rattle.pg_report.specs.declared.line.ImageLine.TheVariants as told_image
use Rattle.pg_report.specs.declared.line.RefusalLine.TheVariants.{Image}
use Rattle.pg_cmd_base.specs.Images.{BytesDue, ImageDue}
use Rattle.pg_cmd_base.specs.Answering.{Comes}
use Rattle.pg_cmd_base.proofs.FileLemmas.{file-stops, file-refused, file-came}
use Rattle.pg_cmd_base.proofs.load.load_image.Goals as goal

pub returns-in-Err-clause-comes : goal.returns-in-Err-clause-comes
unfolding ImageDue
returns-in-Err-clause-comes g c =
    let told = g.F.Shelf.files c.args.shelf.now in
    let before = g.F.Shelf.reads c.args.shelf.now in
    let after = g.F.Shelf.reads c.load_file.new.shelf in
    subst (λ s. Comes (λ (image : List ℕ). image) (ImageDue told c.args.number c.args.name.now c.args.shape.now.w c.args.size) before after (Err s)) (sym c.stop_of.ensures)
    (file-stops (λ (image : List ℕ). image) (Image c.args.number) told c.args.name.now most_image_bytes told_image.Long (BytesDue c.args.shape.now.w c.args.size) before after c.in-Err.fault
    (λ e. c.in-Err.ensures.missing (ap Err e)) (λ e. c.in-Err.ensures.long (ap Err e)) (λ e. c.in-Err.ensures.failed (ap Err e)))

pub returns-in-Ok-image_of-clause-comes : goal.returns-in-Ok-image_of-clause-comes
unfolding ImageDue
returns-in-Ok-image_of-clause-comes g c =
    file-came (Image c.args.number) (g.F.Shelf.files c.args.shelf.now) c.args.name.now most_image_bytes told_image.Long (BytesDue c.args.shape.now.w c.args.size) c.in-Ok.bytes.items
    c.in-Ok-image_of.image c.in-Ok.ensures.ok
    (subst (λ text. BytesDue c.args.shape.now.w c.args.size text (Ok c.in-Ok-image_of.image)) c.deref.ensures.value c.in-Ok-image_of.ensures.ok)

pub returns-clause-comes : goal.returns-clause-comes
unfolding ImageDue
returns-clause-comes g c =
    file-refused (Image c.args.number) (g.F.Shelf.files c.args.shelf.now) c.args.name.now most_image_bytes told_image.Long (BytesDue c.args.shape.now.w c.args.size) c.in-Ok.bytes.items
    c.in-Err-Some.line c.in-Ok.ensures.ok
    (subst (λ text. BytesDue c.args.shape.now.w c.args.size text (Err c.in-Err-Some.line)) c.deref.ensures.value
    (subst (λ o. IfSome o (λ line. BytesDue c.args.shape.now.w c.args.size c.deref.result.now (Err line))) c.in-Err-Some.field-0-is c.in-Err-Some.ensures.refused))
