use Rattle.std.proofs.Common.{SFits, w32, rules, arith, ap, length, vec_len, ◌-◌, length-take}
use Rattle.std.proofs.lemmas.Int.{to_z-of_z}
use Rattle.pg_watch.proofs.Tables.{table_popped}
use Rattle.pg_watch.proofs.assignment.Assignment.pop.Goals as goal

pub set_values-requires : goal.set_values-requires
set_values-requires c =
    let fits : SFits w32 c.in-Some.lit = search rules in
    let p = table_popped _ _ _ _ _ _ _ c.self.invariant c.in-Some.ensures.items in
    simp to_z-of_z (record { literal = p.literal; own_place = p.own_place; other_place = p.other_place })

pub invariant_of-self : goal.invariant_of-self
invariant_of-self c =
    let fits : SFits w32 c.in-Some.lit = search rules in
    let written = simp to_z-of_z at c.set_values.ensures in
    let p = table_popped _ _ _ _ _ _ _ c.self.invariant c.in-Some.ensures.items in
    p.table _ _ written (omega (arith, ap length c.pop.ensures.rest, length-take (vec_len c.self.inside.reasons - 1) c.self.inside.reasons.items))
