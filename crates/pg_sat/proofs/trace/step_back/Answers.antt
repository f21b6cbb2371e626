use Rattle.std.proofs.Common.{SFits, w32, List, ℤ, ℕ, true, false, pos, neg_ℤ, length, subst, sym, ap, ◌≡◌, ◌∙◌, ◌<◌, Some, None, slice_index_or, arith}
use Rattle.std.proofs.lemmas.Int.{to_z-of_z}
use Rattle.pg_cnf.specs.Literals.{IsLiteral}
use Rattle.pg_watch.specs.Trail.{clause_at}
use Rattle.pg_proof.specs.Places.{place, is_marked, AreWithin}
use Rattle.pg_proof.proofs.MarkedLemmas.{place-below}
use Rattle.pg_sat.specs.Cut.{IsResolved}
use Rattle.pg_sat_guide.proofs.LiteralLemmas.{SFits-neg, SFits-literal}
use Rattle.pg_sat.proofs.FlagLemmas.{IsWithin-neg}
use Rattle.pg_sat.proofs.TrailLemmas.{AreWithin-literals}
use Rattle.pg_sat.proofs.TraceLemmas.{at_place, within_places, passed, resolved, reason_numbered, reason_clause}
use Rattle.pg_sat.proofs.trace.step_back.Goals as goal

pub negation-requires : goal.negation-requires
negation-requires c =
    let z = slice_index_or c.trail.result.now c.args.at (pos 0) in
    let t = c.args.watches.now.trail in
    let is : z ≡ slice_index_or t.literals c.args.at (pos 0) = ap (λ (zs : List ℤ). slice_index_or zs c.args.at (pos 0)) c.trail.ensures.literals in
    let here = at_place c.args.variables c.args.watches.now.clauses t c.args.at z c.requires.over c.trail.ensures.right c.requires.there is in
    let fits : SFits w32 z = SFits-literal c.args.variables z c.requires.over.few here.literal in
    simp to_z-of_z (here.literal.0, omega (arith, here.literal.1, c.requires.over.few))

pub is_up-requires : goal.is_up-requires
is_up-requires c =
    let z = slice_index_or c.trail.result.now c.args.at (pos 0) in
    let t = c.args.watches.now.trail in
    let is : z ≡ slice_index_or t.literals c.args.at (pos 0) = ap (λ (zs : List ℤ). slice_index_or zs c.args.at (pos 0)) c.trail.ensures.literals in
    let here = at_place c.args.variables c.args.watches.now.clauses t c.args.at z c.requires.over c.trail.ensures.right c.requires.there is in
    let fits : SFits w32 z = SFits-literal c.args.variables z c.requires.over.few here.literal in
    let within = within_places c.args.variables c.args.watches.now.clauses t c.args.at z c.requires.over c.trail.ensures.right c.requires.there is c.args.trace.now.flags c.requires.traced.places in
    let n = simp to_z-of_z at c.negation.ensures in
    let small : IsLiteral 2147483647 z = (here.literal.0, omega (arith, here.literal.1, c.requires.over.few)) in
    let other : SFits w32 c.negation.result = SFits-neg z c.negation.result n small in
    let p : c.place.result ≡ place (neg_ℤ z) = simp to_z-of_z at c.place.ensures ∙ ap place n in
    subst (λ (k : ℕ). k < length c.args.trace.now.flags) (sym p) (place-below (length c.args.trace.now.flags) (neg_ℤ z) (IsWithin-neg (length c.args.trace.now.flags) z within))

pub returns-then-not-is_up : goal.returns-then-not-is_up
returns-then-not-is_up c =
    let z = slice_index_or c.trail.result.now c.args.at (pos 0) in
    let t = c.args.watches.now.trail in
    let is : z ≡ slice_index_or t.literals c.args.at (pos 0) = ap (λ (zs : List ℤ). slice_index_or zs c.args.at (pos 0)) c.trail.ensures.literals in
    let here = at_place c.args.variables c.args.watches.now.clauses t c.args.at z c.requires.over c.trail.ensures.right c.requires.there is in
    let fits : SFits w32 z = SFits-literal c.args.variables z c.requires.over.few here.literal in
    let within = within_places c.args.variables c.args.watches.now.clauses t c.args.at z c.requires.over c.trail.ensures.right c.requires.there is c.args.trace.now.flags c.requires.traced.places in
    let n = simp to_z-of_z at c.negation.ensures in
    let small : IsLiteral 2147483647 z = (here.literal.0, omega (arith, here.literal.1, c.requires.over.few)) in
    let other : SFits w32 c.negation.result = SFits-neg z c.negation.result n small in
    let p : c.place.result ≡ place (neg_ℤ z) = simp to_z-of_z at c.place.ensures ∙ ap place n in
    let down : is_marked c.args.trace.now.flags (neg_ℤ z) ≡ false =
    ap (λ (k : ℕ). slice_index_or c.args.trace.now.flags k false) (sym p) ∙ sym c.is_up.ensures ∙ c.if-not-is_up.true in
    passed c.args.variables c.args.watches.now.clauses t c.args.at z c.requires.over c.trail.ensures.right c.requires.there is c.args.trace.now.flags c.args.trace.now.hints.items c.requires.traced down

pub clause-clause-requires : goal.clause-clause-requires
clause-clause-requires c =
    let z = slice_index_or c.trail.result.now c.args.at (pos 0) in
    let t = c.args.watches.now.trail in
    let is : z ≡ slice_index_or t.literals c.args.at (pos 0) = ap (λ (zs : List ℤ). slice_index_or zs c.args.at (pos 0)) c.trail.ensures.literals in
    let _here = at_place c.args.variables c.args.watches.now.clauses t c.args.at z c.requires.over c.trail.ensures.right c.requires.there is in
    let r : slice_index_or t.reasons c.args.at None ≡ Some c.in-Some.reason = sym c.in-Some.ensures in
    reason_numbered c.args.variables c.args.watches.now.clauses t c.args.at z c.requires.over c.trail.ensures.right c.requires.there is c.in-Some.reason r

pub resolve-requires-clause-literal : goal.resolve-requires-clause-literal
resolve-requires-clause-literal c =
    let z = slice_index_or c.trail.result.now c.args.at (pos 0) in
    let t = c.args.watches.now.trail in
    let is : z ≡ slice_index_or t.literals c.args.at (pos 0) = ap (λ (zs : List ℤ). slice_index_or zs c.args.at (pos 0)) c.trail.ensures.literals in
    let here = at_place c.args.variables c.args.watches.now.clauses t c.args.at z c.requires.over c.trail.ensures.right c.requires.there is in
    let fits : SFits w32 z = SFits-literal c.args.variables z c.requires.over.few here.literal in
    simp to_z-of_z (here.literal.0, omega (arith, here.literal.1, c.requires.over.few))

pub resolve-requires-clause-here : goal.resolve-requires-clause-here
resolve-requires-clause-here c =
    let z = slice_index_or c.trail.result.now c.args.at (pos 0) in
    let t = c.args.watches.now.trail in
    let is : z ≡ slice_index_or t.literals c.args.at (pos 0) = ap (λ (zs : List ℤ). slice_index_or zs c.args.at (pos 0)) c.trail.ensures.literals in
    let here = at_place c.args.variables c.args.watches.now.clauses t c.args.at z c.requires.over c.trail.ensures.right c.requires.there is in
    let fits : SFits w32 z = SFits-literal c.args.variables z c.requires.over.few here.literal in
    simp to_z-of_z (within_places c.args.variables c.args.watches.now.clauses t c.args.at z c.requires.over c.trail.ensures.right c.requires.there is c.args.trace.now.flags c.requires.traced.places)

pub show-requires : goal.show-requires
show-requires c =
    let z = slice_index_or c.trail.result.now c.args.at (pos 0) in
    let t = c.args.watches.now.trail in
    let is : z ≡ slice_index_or t.literals c.args.at (pos 0) = ap (λ (zs : List ℤ). slice_index_or zs c.args.at (pos 0)) c.trail.ensures.literals in
    let here = at_place c.args.variables c.args.watches.now.clauses t c.args.at z c.requires.over c.trail.ensures.right c.requires.there is in
    let fits : SFits w32 z = SFits-literal c.args.variables z c.requires.over.few here.literal in
    let r : slice_index_or t.reasons c.args.at None ≡ Some c.in-Some.reason = sym c.in-Some.ensures in
    let clause = reason_clause c.args.variables c.args.watches.now.clauses t c.args.at z c.requires.over c.trail.ensures.right c.requires.there is c.in-Some.reason r in
    subst (λ (zs : List ℤ). AreWithin (length c.args.trace.now.flags) zs) (sym c.clause-clause.ensures)
    (subst (λ (k : ℕ). AreWithin k (clause_at c.args.watches.now.clauses c.in-Some.reason)) (sym c.requires.traced.places) (AreWithin-literals c.args.variables (clause_at c.args.watches.now.clauses c.in-Some.reason) clause.within))

pub resolve-requires-clause-within : goal.resolve-requires-clause-within
resolve-requires-clause-within c =
    let z = slice_index_or c.trail.result.now c.args.at (pos 0) in
    let t = c.args.watches.now.trail in
    let is : z ≡ slice_index_or t.literals c.args.at (pos 0) = ap (λ (zs : List ℤ). slice_index_or zs c.args.at (pos 0)) c.trail.ensures.literals in
    let here = at_place c.args.variables c.args.watches.now.clauses t c.args.at z c.requires.over c.trail.ensures.right c.requires.there is in
    let fits : SFits w32 z = SFits-literal c.args.variables z c.requires.over.few here.literal in
    let r : slice_index_or t.reasons c.args.at None ≡ Some c.in-Some.reason = sym c.in-Some.ensures in
    let clause = reason_clause c.args.variables c.args.watches.now.clauses t c.args.at z c.requires.over c.trail.ensures.right c.requires.there is c.in-Some.reason r in
    subst (λ (zs : List ℤ). AreWithin (length c.args.trace.now.flags) zs) (sym c.clause-clause.ensures)
    (subst (λ (k : ℕ). AreWithin k (clause_at c.args.watches.now.clauses c.in-Some.reason)) (sym c.requires.traced.places) (AreWithin-literals c.args.variables (clause_at c.args.watches.now.clauses c.in-Some.reason) clause.within))

pub returns-in_ok-push-in-Some : goal.returns-in_ok-push-in-Some
returns-in_ok-push-in-Some c =
    let z = slice_index_or c.trail.result.now c.args.at (pos 0) in
    let t = c.args.watches.now.trail in
    let is : z ≡ slice_index_or t.literals c.args.at (pos 0) = ap (λ (zs : List ℤ). slice_index_or zs c.args.at (pos 0)) c.trail.ensures.literals in
    let here = at_place c.args.variables c.args.watches.now.clauses t c.args.at z c.requires.over c.trail.ensures.right c.requires.there is in
    let fits : SFits w32 z = SFits-literal c.args.variables z c.requires.over.few here.literal in
    let within = within_places c.args.variables c.args.watches.now.clauses t c.args.at z c.requires.over c.trail.ensures.right c.requires.there is c.args.trace.now.flags c.requires.traced.places in
    let n = simp to_z-of_z at c.negation.ensures in
    let small : IsLiteral 2147483647 z = (here.literal.0, omega (arith, here.literal.1, c.requires.over.few)) in
    let other : SFits w32 c.negation.result = SFits-neg z c.negation.result n small in
    let p : c.place.result ≡ place (neg_ℤ z) = simp to_z-of_z at c.place.ensures ∙ ap place n in
    let r : slice_index_or t.reasons c.args.at None ≡ Some c.in-Some.reason = sym c.in-Some.ensures in
    let clause = reason_clause c.args.variables c.args.watches.now.clauses t c.args.at z c.requires.over c.trail.ensures.right c.requires.there is c.in-Some.reason r in
    let up : is_marked c.args.trace.now.flags (neg_ℤ z) ≡ true =
    ap (λ (k : ℕ). slice_index_or c.args.trace.now.flags k false) (sym p) ∙ sym c.is_up.ensures ∙ c.if-not-is_up.false in
    let res = simp to_z-of_z at c.resolve.ensures.resolved in
    resolved c.args.variables c.args.watches.now.clauses t c.args.at z c.requires.over c.trail.ensures.right c.requires.there is c.in-Some.reason r
    c.args.trace.now.flags c.resolve.new.self c.args.trace.now.hints.items c.push.new.self.items c.requires.traced up
    (subst (λ (zs : List ℤ). IsResolved (is_marked c.args.trace.now.flags) (is_marked c.resolve.new.self) zs z) c.clause-clause.ensures res)
    c.resolve.ensures.places c.in_ok-push-in-Some.ensures.items
