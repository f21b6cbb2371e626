use Rattle.std.proofs.Common.{SFits, w32, List, ℤ, ℕ, false, pos, neg_ℤ, length, subst, sym, ap, ◌≡◌, ◌∙◌, ◌<◌, slice_index_or, arith}
use Rattle.std.proofs.lemmas.Int.{to_z-of_z}
use Rattle.pg_cnf.specs.Literals.{IsLiteral}
use Rattle.pg_proof.specs.Places.{place, is_marked}
use Rattle.pg_proof.proofs.MarkedLemmas.{place-below}
use Rattle.pg_sat_guide.proofs.LiteralLemmas.{SFits-neg, SFits-literal}
use Rattle.pg_sat.proofs.FlagLemmas.{IsWithin-neg}
use Rattle.pg_sat.proofs.TraceLemmas.{at_place, within_places}
use Rattle.pg_sat.proofs.trace.is_denied.Goals as goal

pub negation-requires : goal.negation-requires
negation-requires c =
    let z = slice_index_or c.trail.result.now c.args.at (pos 0) in
    let t = c.args.watches.now.trail in
    let is : z ≡ slice_index_or t.literals c.args.at (pos 0) = ap (λ (zs : List ℤ). slice_index_or zs c.args.at (pos 0)) c.trail.ensures.literals in
    let here = at_place c.args.variables c.args.watches.now.clauses t c.args.at z c.requires.over c.trail.ensures.right c.requires.there is in
    let fits : SFits w32 z = SFits-literal c.args.variables z c.requires.over.few here.literal in
    simp to_z-of_z (here.literal.0, omega (arith, here.literal.1, c.requires.over.few))

pub is_up-requires : goal.is_up-requires
is_up-requires c =
    let z = slice_index_or c.trail.result.now c.args.at (pos 0) in
    let t = c.args.watches.now.trail in
    let is : z ≡ slice_index_or t.literals c.args.at (pos 0) = ap (λ (zs : List ℤ). slice_index_or zs c.args.at (pos 0)) c.trail.ensures.literals in
    let here = at_place c.args.variables c.args.watches.now.clauses t c.args.at z c.requires.over c.trail.ensures.right c.requires.there is in
    let fits : SFits w32 z = SFits-literal c.args.variables z c.requires.over.few here.literal in
    let within = within_places c.args.variables c.args.watches.now.clauses t c.args.at z c.requires.over c.trail.ensures.right c.requires.there is c.args.flags.now c.requires.places in
    let n = simp to_z-of_z at c.negation.ensures in
    let small : IsLiteral 2147483647 z = (here.literal.0, omega (arith, here.literal.1, c.requires.over.few)) in
    let other : SFits w32 c.negation.result = SFits-neg z c.negation.result n small in
    let p : c.place.result ≡ place (neg_ℤ z) = simp to_z-of_z at c.place.ensures ∙ ap place n in
    subst (λ (k : ℕ). k < length c.args.flags.now) (sym p) (place-below (length c.args.flags.now) (neg_ℤ z) (IsWithin-neg (length c.args.flags.now) z within))

pub returns : goal.returns
returns c =
    let z = slice_index_or c.trail.result.now c.args.at (pos 0) in
    let t = c.args.watches.now.trail in
    let is : z ≡ slice_index_or t.literals c.args.at (pos 0) = ap (λ (zs : List ℤ). slice_index_or zs c.args.at (pos 0)) c.trail.ensures.literals in
    let here = at_place c.args.variables c.args.watches.now.clauses t c.args.at z c.requires.over c.trail.ensures.right c.requires.there is in
    let fits : SFits w32 z = SFits-literal c.args.variables z c.requires.over.few here.literal in
    let within = within_places c.args.variables c.args.watches.now.clauses t c.args.at z c.requires.over c.trail.ensures.right c.requires.there is c.args.flags.now c.requires.places in
    let n = simp to_z-of_z at c.negation.ensures in
    let small : IsLiteral 2147483647 z = (here.literal.0, omega (arith, here.literal.1, c.requires.over.few)) in
    let other : SFits w32 c.negation.result = SFits-neg z c.negation.result n small in
    let p : c.place.result ≡ place (neg_ℤ z) = simp to_z-of_z at c.place.ensures ∙ ap place n in
    c.is_up.ensures ∙ ap (λ (k : ℕ). slice_index_or c.args.flags.now k false) p ∙ ap (λ (x : ℤ). is_marked c.args.flags.now (neg_ℤ x)) is
