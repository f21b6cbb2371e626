use Rattle.std.proofs.Common.{is_some, sym, ap}
use Rattle.pg_edge.proofs.FileLemmas.{content_of-lost, with_content-lost, is_some-content_of-found, with_content-from_set}
use Rattle.pg_edge.proofs.mem_file.replace.Goals as goal

pub returns-in-None-clause-found : goal.returns-in-None-clause-found
returns-in-None-clause-found c =
    ap is_some (sym (content_of-lost c.args.files.now c.args.name.now (sym c.in-None.ensures)))

pub returns-in-None-clause-replaced : goal.returns-in-None-clause-replaced
returns-in-None-clause-replaced c =
    sym (with_content-lost c.args.files.now c.args.name.now c.args.bytes.now (sym c.in-None.ensures))

pub returns-in-Some-clause-found : goal.returns-in-Some-clause-found
returns-in-Some-clause-found c =
    is_some-content_of-found c.args.files.now c.args.name.now c.in-Some.place (sym c.in-Some.ensures)

pub returns-in-Some-clause-replaced : goal.returns-in-Some-clause-replaced
returns-in-Some-clause-replaced c =
    with_content-from_set c.args.files.now c.args.name.now c.args.bytes.now c.in-Some.place _ (sym c.in-Some.ensures) c.refill_at.ensures.replaced
