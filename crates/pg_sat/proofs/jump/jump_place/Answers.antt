use Rattle.std.proofs.Common.{◌≡◌, ◌∙◌, ◌+◌, ◌*◌, ◌-◌, ◌<◌, ℕ, ℤ, Bool, List, false, true, Some, None, pos, neg_ℤ, slice_index_or, arith, length, subst, sym, ap, []}
use Rattle.std.proofs.lemmas.List.{length-replicate}
use Rattle.std.proofs.lemmas.Option.{slice_get-get_or}
use Rattle.pg_watch.proofs.Steps.{length-reasons}
use Rattle.pg_proof.specs.Places.{has, is_marked}
use Rattle.pg_proof.specs.Marked.{marked}
use Rattle.pg_proof.proofs.MarkedLemmas.{length-marked, shows-marked}
use Rattle.pg_sat.proofs.JumpLemmas.{NoneBetween, none_more, jump_wanted}
use Rattle.pg_sat.proofs.jump.jump_place.Goals as goal

pub is_denied-requires-clause-places : goal.is_denied-requires-clause-places
is_denied-requires-clause-places c =
    ap length c.mark.ensures ∙ length-marked c.as_slice.result.now c.in_ok-flags.flags ∙ ap length c.in_ok-flags.ensures
    ∙ length-replicate (2 * c.args.variables + 2) false

pub returns-then-is_denied : goal.returns-then-is_denied
returns-then-is_denied c =
    let t = c.args.watches.now.trail in
    let at = c.loop-at.at - 1 in
    let e : c.loop-at.at - 1 + 1 ≡ c.loop-at.at = omega arith in
    let lits = c.args.learned.now.step.lits in
    let shown : is_marked c.mark.new.self ≡ has lits =
    ap is_marked (c.mark.ensures ∙ ap (λ (zs : List ℤ). marked c.in_ok-flags.flags zs) c.as_slice.ensures ∙ ap (λ (fs : List Bool). marked fs lits) c.in_ok-flags.ensures)
    ∙ shows-marked (2 * c.args.variables + 2) lits c.requires.within in
    let there : has lits (neg_ℤ (slice_index_or t.literals (c.loop-at.at - 1) (pos 0))) ≡ true =
    ap (λ (f : ℤ → Bool). f (neg_ℤ (slice_index_or t.literals (c.loop-at.at - 1) (pos 0)))) (sym shown) ∙ sym c.is_denied.ensures ∙ c.if-is_denied.true in
    jump_wanted c.args.watches.now.clauses t lits c.args.last (c.loop-at.at - 1) c.loop-at.jump (slice_index_or t.literals c.args.learned.now.place (pos 0)) c.trail-trail.ensures.right c.requires.there
    c.requires.asserting (omega (arith, c.loop-at.invariant.below)) c.loop-at.invariant.assigned
    (subst (λ (k : ℕ). NoneBetween t k c.loop-at.jump) (sym e) c.loop-at.invariant.between) there

pub loop-at-preserved-in-Some : goal.loop-at-preserved-in-Some
loop-at-preserved-in-Some c =
    let t = c.args.watches.now.trail in
    let e : c.loop-at.at - 1 + 1 ≡ c.loop-at.at = omega arith in
    let long = length-reasons c.args.watches.now.clauses [] t.literals t.reasons c.trail-trail.ensures.right.reasoned in
    record {
      below = omega (arith, c.loop-at.invariant.below);
      assigned = c.loop-at.invariant.assigned;
      between = none_more t (c.loop-at.at - 1) c.loop-at.jump _ (omega (arith, long, c.requires.there, c.loop-at.invariant.below)) (sym c.in-Some.ensures)
          (subst (λ (k : ℕ). NoneBetween t k c.loop-at.jump) (sym e) c.loop-at.invariant.between);
    }

pub loop-at-preserved : goal.loop-at-preserved
loop-at-preserved c =
    let t = c.args.watches.now.trail in
    let long = length-reasons c.args.watches.now.clauses [] t.literals t.reasons c.trail-trail.ensures.right.reasoned in
    let lt : c.loop-at.at - 1 < length t.reasons = omega (arith, long, c.requires.there, c.loop-at.invariant.below) in
    record {
      below = omega (arith, c.loop-at.invariant.below);
      assigned = slice_get-get_or t.reasons (c.loop-at.at - 1) None lt ∙ ap Some (sym c.in-None.ensures);
      between = λ d a le. le;
    }
