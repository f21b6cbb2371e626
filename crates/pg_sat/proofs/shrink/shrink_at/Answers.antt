use Rattle.std.proofs.Common.{SFits, w32, List, ℤ, ℕ, pos, length, subst, sym, ap, ◌≡◌, ◌∙◌, Some, None, slice_index_or, arith}
use Rattle.std.proofs.lemmas.Int.{to_z-of_z}
use Rattle.pg_watch.specs.Trail.{clause_at}
use Rattle.pg_proof.specs.Places.{has, is_marked, AreWithin}
use Rattle.pg_sat.specs.Cut.{IsResolved}
use Rattle.pg_sat_guide.proofs.LiteralLemmas.{SFits-literal}
use Rattle.pg_sat.proofs.TrailLemmas.{AreWithin-literals}
use Rattle.pg_sat.proofs.TraceLemmas.{at_place, within_places, reason_numbered, reason_clause}
use Rattle.pg_sat.proofs.ThinLemmas.{thin_kept, thin_resolved, fewer_resolved}
use Rattle.pg_sat.proofs.shrink.shrink_at.Goals as goal

pub returns-then-not-is_denied-clause-thin : goal.returns-then-not-is_denied-clause-thin
returns-then-not-is_denied-clause-thin c =
    thin_kept c.args.variables c.args.watches.now.clauses c.args.watches.now.trail c.requires.over c.trail-trail.ensures.right c.args.at c.args.trace.now.flags
    c.args.trace.now.hints.items c.requires.there c.requires.thin

pub clause-clause-requires : goal.clause-clause-requires
clause-clause-requires c =
    let z = slice_index_or c.trail.result.now c.args.at (pos 0) in
    let t = c.args.watches.now.trail in
    let is : z ≡ slice_index_or t.literals c.args.at (pos 0) = ap (λ (zs : List ℤ). slice_index_or zs c.args.at (pos 0)) c.trail.ensures.literals in
    let r : slice_index_or t.reasons c.args.at None ≡ Some c.in-Some.reason = sym c.in-Some.ensures in
    reason_numbered c.args.variables c.args.watches.now.clauses t c.args.at z c.requires.over c.trail.ensures.right c.requires.there is c.in-Some.reason r

pub are_up-requires : goal.are_up-requires
are_up-requires c =
    let z = slice_index_or c.trail.result.now c.args.at (pos 0) in
    let t = c.args.watches.now.trail in
    let is : z ≡ slice_index_or t.literals c.args.at (pos 0) = ap (λ (zs : List ℤ). slice_index_or zs c.args.at (pos 0)) c.trail.ensures.literals in
    let r : slice_index_or t.reasons c.args.at None ≡ Some c.in-Some.reason = sym c.in-Some.ensures in
    let clause = reason_clause c.args.variables c.args.watches.now.clauses t c.args.at z c.requires.over c.trail.ensures.right c.requires.there is c.in-Some.reason r in
    subst (λ (zs : List ℤ). AreWithin (length c.args.trace.now.flags) zs) (sym c.clause-clause.ensures)
    (subst (λ (k : ℕ). AreWithin k (clause_at c.args.watches.now.clauses c.in-Some.reason)) (sym c.requires.thin.traced.places) (AreWithin-literals c.args.variables (clause_at c.args.watches.now.clauses c.in-Some.reason) clause.within))

pub returns-then-not-are_up-clause-thin : goal.returns-then-not-are_up-clause-thin
returns-then-not-are_up-clause-thin c =
    thin_kept c.args.variables c.args.watches.now.clauses c.args.watches.now.trail c.requires.over c.trail.ensures.right c.args.at c.args.trace.now.flags
    c.args.trace.now.hints.items c.requires.there c.requires.thin

pub resolve-requires-clause-literal : goal.resolve-requires-clause-literal
resolve-requires-clause-literal c =
    let z = slice_index_or c.trail.result.now c.args.at (pos 0) in
    let t = c.args.watches.now.trail in
    let is : z ≡ slice_index_or t.literals c.args.at (pos 0) = ap (λ (zs : List ℤ). slice_index_or zs c.args.at (pos 0)) c.trail.ensures.literals in
    let here = at_place c.args.variables c.args.watches.now.clauses t c.args.at z c.requires.over c.trail.ensures.right c.requires.there is in
    let fits : SFits w32 z = SFits-literal c.args.variables z c.requires.over.few here.literal in
    simp to_z-of_z (here.literal.0, omega (arith, here.literal.1, c.requires.over.few))

pub resolve-requires-clause-here : goal.resolve-requires-clause-here
resolve-requires-clause-here c =
    let z = slice_index_or c.trail.result.now c.args.at (pos 0) in
    let t = c.args.watches.now.trail in
    let is : z ≡ slice_index_or t.literals c.args.at (pos 0) = ap (λ (zs : List ℤ). slice_index_or zs c.args.at (pos 0)) c.trail.ensures.literals in
    let here = at_place c.args.variables c.args.watches.now.clauses t c.args.at z c.requires.over c.trail.ensures.right c.requires.there is in
    let fits : SFits w32 z = SFits-literal c.args.variables z c.requires.over.few here.literal in
    simp to_z-of_z (within_places c.args.variables c.args.watches.now.clauses t c.args.at z c.requires.over c.trail.ensures.right c.requires.there is c.args.trace.now.flags c.requires.thin.traced.places)

pub resolve-requires-clause-within : goal.resolve-requires-clause-within
resolve-requires-clause-within c =
    let z = slice_index_or c.trail.result.now c.args.at (pos 0) in
    let t = c.args.watches.now.trail in
    let is : z ≡ slice_index_or t.literals c.args.at (pos 0) = ap (λ (zs : List ℤ). slice_index_or zs c.args.at (pos 0)) c.trail.ensures.literals in
    let r : slice_index_or t.reasons c.args.at None ≡ Some c.in-Some.reason = sym c.in-Some.ensures in
    let clause = reason_clause c.args.variables c.args.watches.now.clauses t c.args.at z c.requires.over c.trail.ensures.right c.requires.there is c.in-Some.reason r in
    subst (λ (zs : List ℤ). AreWithin (length c.args.trace.now.flags) zs) (sym c.clause-clause.ensures)
    (subst (λ (k : ℕ). AreWithin k (clause_at c.args.watches.now.clauses c.in-Some.reason)) (sym c.requires.thin.traced.places) (AreWithin-literals c.args.variables (clause_at c.args.watches.now.clauses c.in-Some.reason) clause.within))

pub returns-in-None-clause-thin : goal.returns-in-None-clause-thin
returns-in-None-clause-thin c =
    thin_kept c.args.variables c.args.watches.now.clauses c.args.watches.now.trail c.requires.over c.trail.ensures.right c.args.at c.args.trace.now.flags
    c.args.trace.now.hints.items c.requires.there c.requires.thin

pub returns-in_ok-push-in-Some-clause-thin : goal.returns-in_ok-push-in-Some-clause-thin
returns-in_ok-push-in-Some-clause-thin c =
    let z = slice_index_or c.trail.result.now c.args.at (pos 0) in
    let t = c.args.watches.now.trail in
    let is : z ≡ slice_index_or t.literals c.args.at (pos 0) = ap (λ (zs : List ℤ). slice_index_or zs c.args.at (pos 0)) c.trail.ensures.literals in
    let here = at_place c.args.variables c.args.watches.now.clauses t c.args.at z c.requires.over c.trail.ensures.right c.requires.there is in
    let fits : SFits w32 z = SFits-literal c.args.variables z c.requires.over.few here.literal in
    let res = simp to_z-of_z at c.resolve.ensures.resolved in
    let resolved : IsResolved (is_marked c.args.trace.now.flags) (is_marked c.resolve.new.self) (clause_at c.args.watches.now.clauses c.in-Some.reason) (slice_index_or t.literals c.args.at (pos 0)) =
    subst (λ (x : ℤ). IsResolved (is_marked c.args.trace.now.flags) (is_marked c.resolve.new.self) (clause_at c.args.watches.now.clauses c.in-Some.reason) x) is
    (subst (λ (zs : List ℤ). IsResolved (is_marked c.args.trace.now.flags) (is_marked c.resolve.new.self) zs z) c.clause-clause.ensures res) in
    thin_resolved c.args.variables c.args.watches.now.clauses t c.requires.over c.trail.ensures.right c.args.at c.in-Some.reason c.args.trace.now.flags c.resolve.new.self
    c.args.trace.now.hints.items c.push.new.self.items c.requires.there c.requires.thin (sym c.in-Some.ensures) (sym c.is_denied.ensures ∙ c.if-not-is_denied.false) resolved
    c.resolve.ensures.places c.in_ok-push-in-Some.ensures.items

pub returns-in_ok-push-in-Some-clause-fewer : goal.returns-in_ok-push-in-Some-clause-fewer
returns-in_ok-push-in-Some-clause-fewer c =
    let z = slice_index_or c.trail.result.now c.args.at (pos 0) in
    let t = c.args.watches.now.trail in
    let is : z ≡ slice_index_or t.literals c.args.at (pos 0) = ap (λ (zs : List ℤ). slice_index_or zs c.args.at (pos 0)) c.trail.ensures.literals in
    let here = at_place c.args.variables c.args.watches.now.clauses t c.args.at z c.requires.over c.trail.ensures.right c.requires.there is in
    let fits : SFits w32 z = SFits-literal c.args.variables z c.requires.over.few here.literal in
    let res = simp to_z-of_z at c.resolve.ensures.resolved in
    let resolved : IsResolved (is_marked c.args.trace.now.flags) (is_marked c.resolve.new.self) (clause_at c.args.watches.now.clauses c.in-Some.reason) (slice_index_or t.literals c.args.at (pos 0)) =
    subst (λ (x : ℤ). IsResolved (is_marked c.args.trace.now.flags) (is_marked c.resolve.new.self) (clause_at c.args.watches.now.clauses c.in-Some.reason) x) is
    (subst (λ (zs : List ℤ). IsResolved (is_marked c.args.trace.now.flags) (is_marked c.resolve.new.self) zs z) c.clause-clause.ensures res) in
    let implied = simp to_z-of_z at c.are_up.ensures in
    λ w d e. fewer_resolved c.args.trace.now.flags c.resolve.new.self (clause_at c.args.watches.now.clauses c.in-Some.reason) (slice_index_or t.literals c.args.at (pos 0)) w resolved
    (λ x h f. implied c.if-not-are_up.false x (ap (λ (zs : List ℤ). has zs x) c.clause-clause.ensures ∙ h) (λ g. f (g ∙ is))) d e
