use Rattle.std.proofs.Common.{Err, sym, ap, subst}
use Rattle.pg_ast.specs.declared.tree.Desc.{Desc}
use Rattle.pg_cmd_base.specs.Descriptions.{DescDue, TextDue}
use Rattle.pg_read.specs.Answer.{most_desc_bytes}
use Rattle.pg_report.specs.declared.line.DescriptionLine.TheVariants as told_line
use Rattle.pg_report.specs.declared.line.RefusalLine.TheVariants.{Description}
use Rattle.pg_cmd_base.specs.Answering.{Comes}
use Rattle.pg_cmd_base.proofs.FileLemmas.{file-stops}
use Rattle.pg_prog_explain.proofs.load.load_text.Goals as goal

pub returns-in-Err-clause-stops : goal.returns-in-Err-clause-stops
unfolding DescDue
returns-in-Err-clause-stops g c =
    let told = g.F.Shelf.files c.args.shelf.now in
    let before = g.F.Shelf.reads c.args.shelf.now in
    let after = g.F.Shelf.reads c.load_file.new.shelf in
    subst (λ s. Comes {T = Desc} (λ d. d) (DescDue told c.args.name.now) before after (Err s)) (sym c.stop_of.ensures)
    (file-stops {T = Desc} (λ d. d) Description told c.args.name.now most_desc_bytes told_line.Long TextDue before after c.in-Err.fault
    (λ e. c.in-Err.ensures.missing (ap Err e)) (λ e. c.in-Err.ensures.long (ap Err e)) (λ e. c.in-Err.ensures.failed (ap Err e)))
