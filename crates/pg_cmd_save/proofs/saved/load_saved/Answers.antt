use Rattle.std.proofs.Common.{ℕ, List, Ok, Err, IfSome, sym, ap, subst}
use Rattle.pg_move.specs.Seen.{guest_of}
use Rattle.pg_move.specs.Texts.{most_bytes}
use Rattle.pg_report.specs.declared.line.RefusalLine.TheVariants.{Saved}
use Rattle.pg_report.specs.declared.line.SavedLine.TheVariants as told_saved
use Rattle.pg_cmd_base.specs.Answering.{Comes}
use Rattle.pg_cmd_base.proofs.FileLemmas.{file-stops, file-refused, file-came}
use Rattle.pg_cmd_save.specs.SavedFiles.{ReadsSaved, SavedDue}
use Rattle.pg_cmd_save.proofs.saved.load_saved.Goals as goal

pub returns-in-Err-clause-comes : goal.returns-in-Err-clause-comes
unfolding SavedDue
returns-in-Err-clause-comes g c =
    let told = g.F.Shelf.files c.args.shelf.now in
    let before = g.F.Shelf.reads c.args.shelf.now in
    let after = g.F.Shelf.reads c.load_file.new.shelf in
    subst (λ s. Comes guest_of (SavedDue told c.args.name.now c.args.machine.now.desc) before after (Err s)) (sym c.stop_of.ensures)
    (file-stops guest_of Saved told c.args.name.now most_bytes told_saved.Long (ReadsSaved c.args.machine.now.desc) before after c.in-Err.fault
    (λ e. c.in-Err.ensures.missing (ap Err e)) (λ e. c.in-Err.ensures.long (ap Err e)) (λ e. c.in-Err.ensures.failed (ap Err e)))

pub returns-in-Ok-saved_of-clause-comes : goal.returns-in-Ok-saved_of-clause-comes
unfolding SavedDue
returns-in-Ok-saved_of-clause-comes g c =
    file-came Saved (g.F.Shelf.files c.args.shelf.now) c.args.name.now most_bytes told_saved.Long (ReadsSaved c.args.machine.now.desc) c.in-Ok.bytes.items
    (guest_of c.in-Ok-saved_of.saved) c.in-Ok.ensures.ok
    (subst (λ text. ReadsSaved c.args.machine.now.desc text (Ok (guest_of c.in-Ok-saved_of.saved))) c.deref.ensures.value c.in-Ok-saved_of.ensures.ok)

pub returns-clause-comes : goal.returns-clause-comes
unfolding SavedDue
returns-clause-comes g c =
    file-refused Saved (g.F.Shelf.files c.args.shelf.now) c.args.name.now most_bytes told_saved.Long (ReadsSaved c.args.machine.now.desc) c.in-Ok.bytes.items
    c.in-Err-Some.line c.in-Ok.ensures.ok
    (subst (λ text. ReadsSaved c.args.machine.now.desc text (Err c.in-Err-Some.line)) c.deref.ensures.value
    (subst (λ o. IfSome o (λ line. ReadsSaved c.args.machine.now.desc c.deref.result.now (Err line))) c.in-Err-Some.field-0-is c.in-Err-Some.ensures.refused))
