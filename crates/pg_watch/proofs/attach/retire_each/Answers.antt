use Rattle.std.proofs.Common.{arith, sym, subst, ℕ, ℤ, List, length, ◌<◌}
use Rattle.pg_cnf.specs.Literals.{AreLiterals}
use Rattle.pg_watch.specs.Fixes.{ArePlaces}
use Rattle.pg_watch.specs.Watching.{HasTrue}
use Rattle.pg_watch.specs.Watched.{IsWatched}
use Rattle.pg_watch.proofs.Steps.{AreClauses-at}
use Rattle.pg_watch.proofs.JoinLemmas.{places_at, places_less, watched_sure, fresh_read}
use Rattle.pg_watch.proofs.attach.retire_each.Goals as goal

pub clause-requires : goal.clause-requires
clause-requires c =
    let ks = c.loop-at.fresh.items in
    let lt : c.loop-at.at < length ks = omega (arith, c.loop-at-test.true, c.len.ensures, c.loop-at.fresh.ok.0) in
    subst (λ (k : ℕ). k < length c.args.clauses.now) (sym c.index-place.ensures) (places_at _ ks c.loop-at.at c.index-place.result.now c.loop-at.invariant.places lt)

pub has_true-requires : goal.has_true-requires
has_true-requires c =
    let ks = c.loop-at.fresh.items in
    let lt : c.loop-at.at < length ks = omega (arith, c.loop-at-test.true, c.len.ensures, c.loop-at.fresh.ok.0) in
    let within = subst (λ (k : ℕ). k < length c.args.clauses.now) (sym c.index-place.ensures) (places_at _ ks c.loop-at.at c.index-place.result.now c.loop-at.invariant.places lt) in
    subst (AreLiterals c.args.trail.now.variables) (sym c.clause.ensures)
    (AreClauses-at c.args.trail.now.variables c.args.clauses.now c.index-place.result.now c.requires.right within).within

pub loop-at-preserved-then-has_true : goal.loop-at-preserved-then-has_true
loop-at-preserved-then-has_true c =
    let i = c.loop-at.invariant in
    let ks = c.loop-at.fresh.items in let at = c.loop-at.at in let k = c.index-place.result.now in let x = c.swap_remove.result in
    let cs = c.args.clauses.now in let t = c.args.trail.now in
    let lt : at < length ks = omega (arith, c.loop-at-test.true, c.len.ensures, c.loop-at.fresh.ok.0) in
    let holds = subst (λ (xs : List ℤ). HasTrue t.literals xs) c.clause.ensures (c.has_true.ensures c.if-has_true.true) in
    record {
      places = subst (ArePlaces (length cs)) (sym c.swap_remove.ensures.items) (places_less (length cs) ks at x i.places lt);
      watched = λ q ls ps h w.
          subst (λ (fresh : List ℕ). IsWatched cs t q fresh ls ps h) (sym c.swap_remove.ensures.items)
          (watched_sure cs t q ks ls ps h k at x (i.watched q ls ps h w) lt holds (c.has_assigned.ensures c.if-has_assigned.false)
          (λ j. fresh_read ks at k j lt c.index-place.ensures));
    }
