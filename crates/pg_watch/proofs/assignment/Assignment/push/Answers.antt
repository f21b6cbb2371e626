use Rattle.std.proofs.Common.{SFits, w32, arith, ap, set, length, ◌≡◌, ◌∙◌, ◌++◌, ◌∷◌, []}
use Rattle.std.proofs.lemmas.Int.{to_z-of_z}
use Rattle.pg_watch.proofs.Tables.{table_pushed}
use Rattle.pg_watch.proofs.Short.{AreSet-short}
use Rattle.pg_watch.proofs.assignment.Assignment.push.Goals as goal

pub overflow_cast-place : goal.overflow_cast-place
overflow_cast-place c =
    omega (arith, c.self.invariant.few, c.len-place.ensures, c.self.inside.literals.ok.0, AreSet-short c.self.inside.variables c.self.inside.literals.items c.self.invariant.set)

pub invariant_of-self-in-Ok : goal.invariant_of-self-in-Ok
invariant_of-self-in-Ok c =
    let fits : SFits w32 c.args.lit = c.ranges.lit in
    let written = simp to_z-of_z at c.set_values.ensures in
    let pushed = simp to_z-of_z at c.in-Ok.ensures.items in
    let abs = simp to_z-of_z at c.unsigned_abs.ensures.value in
    let long : c.len-place.result ≡ length c.self.inside.literals.items = omega (arith, c.len-place.ensures, c.self.inside.literals.ok.0) in
    table_pushed c.args.self.now _ c.self.inside.values.items _ c.self.inside.wheres.items _ c.self.inside.literals.items _ c.self.inside.reasons.items _
    c.args.lit c.args.reason c.self.invariant c.self.view_is c.requires.literal c.requires.unset written
    (λ i. set c.self.inside.wheres.items (abs i) (long i))
    (pushed ∙ ap (λ zs. zs ++ c.args.lit ∷ []) c.reserve.ensures.items) c.in_ok-push.ensures.items
