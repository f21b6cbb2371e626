use Rattle.std.proofs.Common.{SFits, w32, ◌∙◌, ◌<◌, length, ap, subst, sym, ℕ}
use Rattle.std.proofs.lemmas.Int.{to_z-of_z}
use Rattle.pg_proof.specs.Places.{place}
use Rattle.pg_proof.proofs.MarkedLemmas.{place-below}
use Rattle.pg_sat_guide.proofs.LiteralLemmas.{SFits-neg}
use Rattle.pg_sat.proofs.FlagLemmas.{flags-resolved, length-mid, length-new}
use Rattle.pg_sat.proofs.flags.Flags.resolve.Goals as goal

pub put-requires-2 : goal.put-requires-2
put-requires-2 c =
    let fits : SFits w32 c.args.literal = c.ranges.literal in
    let n = simp to_z-of_z at c.negation.ensures in
    let other : SFits w32 c.negation.result = SFits-neg c.args.literal c.negation.result n c.requires.literal in
    let p = simp to_z-of_z at c.place.ensures in
    let q = simp to_z-of_z at c.place-2.ensures in
    subst (λ (k : ℕ). k < length c.mark.new.self) (sym q)
    (subst (λ (n : ℕ). place c.args.literal < n)
    (sym (length-mid c.args.self.now c.put.new.self c.mark.new.self c.mark.new.self c.place.result c.place-2.result c.args.clause.now c.args.literal (p ∙ ap place n) q c.put.ensures c.mark.ensures))
    (place-below _ c.args.literal c.requires.here))

pub returns-clause-resolved : goal.returns-clause-resolved
returns-clause-resolved c =
    let fits : SFits w32 c.args.literal = c.ranges.literal in
    let n = simp to_z-of_z at c.negation.ensures in
    let other : SFits w32 c.negation.result = SFits-neg c.args.literal c.negation.result n c.requires.literal in
    let p = simp to_z-of_z at c.place.ensures in
    let q = simp to_z-of_z at c.place-2.ensures in
    flags-resolved c.args.self.now c.put.new.self c.mark.new.self c.put-2.new.self c.place.result c.place-2.result c.args.clause.now c.args.literal
    (p ∙ ap place n) q c.put.ensures c.mark.ensures c.requires.here c.requires.within c.put-2.ensures

pub returns-clause-places : goal.returns-clause-places
returns-clause-places c =
    let fits : SFits w32 c.args.literal = c.ranges.literal in
    let n = simp to_z-of_z at c.negation.ensures in
    let other : SFits w32 c.negation.result = SFits-neg c.args.literal c.negation.result n c.requires.literal in
    let p = simp to_z-of_z at c.place.ensures in
    let q = simp to_z-of_z at c.place-2.ensures in
    length-new c.args.self.now c.put.new.self c.mark.new.self c.put-2.new.self c.place.result c.place-2.result c.args.clause.now c.args.literal
    (p ∙ ap place n) q c.put.ensures c.mark.ensures c.put-2.ensures
