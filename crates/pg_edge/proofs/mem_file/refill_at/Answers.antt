use Rattle.std.proofs.lemmas.List.{map-set, get_or_default}
use Rattle.pg_edge.proofs.mem_file.refill_at.Goals as goal

pub returns-clause-replaced : goal.returns-clause-replaced
returns-clause-replaced c = λ d.
    let same = get_or_default c.args.files.now c.args.place c.index-files-place.result d c.requires.place in
    simp (map-set, same, c.refill.ensures.items)
