use Rattle.std.proofs.Common.{SFits, w32, arith, ap, ◌∙◌, ◌<◌, ℕ, length, get_or}
use Rattle.std.proofs.lemmas.Int.{to_z-of_z}
use Rattle.std.proofs.lemmas.List.{get_or_read}
use Rattle.pg_watch.specs.Trail.{Trail}
use Rattle.pg_watch.proofs.Tables.{place_right}
use Rattle.pg_watch.proofs.assignment.Assignment.place.Goals as goal

pub returns : goal.returns
returns c =
    let fits : SFits w32 c.args.lit = c.ranges.lit in
    let abs = simp to_z-of_z at c.unsigned_abs.ensures.value in
    let ws = c.self.inside.wheres.items in
    let lt : c.unsigned_abs.result < length ws =
    omega (arith, abs, c.requires.1, ap (λ (t : Trail). t.variables) c.self.view_is, c.self.invariant.wheres_long) in
    let read = get_or_read ws c.unsigned_abs.result c.index.result.now lt c.index.ensures 0 in
    place_right c.args.self.now _ c.self.inside.values.items ws _ _ c.args.lit c.index.result.now c.self.invariant c.self.view_is c.requires
    (read ∙ ap (λ (k : ℕ). get_or ws k 0) abs)
