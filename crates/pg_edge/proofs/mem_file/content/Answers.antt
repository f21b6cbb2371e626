use Rattle.std.proofs.Common.{Some, sym, ap, ◌∙◌}
use Rattle.pg_edge.proofs.FileLemmas.{content_of-found, content_of-lost}
use Rattle.pg_edge.proofs.mem_file.content.Goals as goal

pub returns-in_err-place : goal.returns-in_err-place
returns-in_err-place c =
    rw c.from_residual.ensures (sym (content_of-lost c.args.files.now c.args.name.now (sym c.in_err-place.ensures)))

pub returns : goal.returns
returns c =
    let found = content_of-found c.args.files.now c.args.name.now c.in_ok-place.place c.index-files-place.result (sym c.in_ok-place.ensures) in
    ap Some c.deref.ensures.value ∙ sym found
