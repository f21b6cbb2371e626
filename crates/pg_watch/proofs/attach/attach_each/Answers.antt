use Rattle.std.proofs.Common.{arith, sym, subst, ℕ, List, length, ◌<◌, inl}
use Rattle.pg_watch.specs.Fixes.{ArePlaces}
use Rattle.pg_watch.specs.Watched.{IsWatched}
use Rattle.pg_watch.proofs.JoinLemmas.{places_at, places_less, watched_stays, watched_leaves, fresh_read, fresh_there, own_kept}
use Rattle.pg_watch.proofs.attach.attach_each.Goals as goal

pub attach-requires-clause-place : goal.attach-requires-clause-place
attach-requires-clause-place c =
    let ks = c.loop-at.fresh.items in
    let lt : c.loop-at.at < length ks = omega (arith, c.loop-at-test.true, c.len.ensures, c.loop-at.fresh.ok.0) in
    subst (λ (k : ℕ). k < length c.args.clauses.now) (sym c.index-place.ensures) (places_at _ ks c.loop-at.at c.index-place.result.now c.loop-at.invariant.places lt)

pub loop-at-preserved-then-attach : goal.loop-at-preserved-then-attach
loop-at-preserved-then-attach c =
    let i = c.loop-at.invariant in
    let ks = c.loop-at.fresh.items in let at = c.loop-at.at in let k = c.index-place.result.now in let x = c.swap_remove.result in
    let cs = c.args.clauses.now in let t = c.args.trail.now in
    let ms = c.attach.new.index.lists in let qs = c.attach.new.index.pairs.items in
    let lt : at < length ks = omega (arith, c.loop-at-test.true, c.len.ensures, c.loop-at.fresh.ok.0) in
    let joined = c.attach.ensures.joined c.if-attach.true in
    record {
      index = c.attach.ensures.index;
      places = subst (ArePlaces (length cs)) (sym c.swap_remove.ensures.items) (places_less (length cs) ks at x i.places lt);
      lows = i.lows;
      watched = λ q h w.
          subst (λ (fresh : List ℕ). IsWatched cs t q fresh ms qs h) (sym c.swap_remove.ensures.items)
          (watched_leaves cs t q ks c.loop-at.index.lists ms c.loop-at.index.pairs.items qs h k (i.watched q h w) c.attach.ensures.index c.attach.ensures.others
          at x lt (inl (own_kept cs t q ks c.loop-at.index.lists ms c.loop-at.index.pairs.items qs h k (i.watched q h w) c.attach.ensures.index c.attach.ensures.others
          c.last_assigned-low.result joined i.lows)) (λ j. fresh_read ks at k j lt c.index-place.ensures));
    }

pub loop-at-preserved : goal.loop-at-preserved
loop-at-preserved c =
    let i = c.loop-at.invariant in
    let ks = c.loop-at.fresh.items in let at = c.loop-at.at in let k = c.index-place.result.now in
    let lt : at < length ks = omega (arith, c.loop-at-test.true, c.len.ensures, c.loop-at.fresh.ok.0) in
    record {
      index = c.attach.ensures.index;
      places = i.places;
      lows = i.lows;
      watched = λ q h w.
          watched_stays c.args.clauses.now c.args.trail.now q ks c.loop-at.index.lists c.attach.new.index.lists c.loop-at.index.pairs.items c.attach.new.index.pairs.items h k
          (i.watched q h w) c.attach.ensures.index c.attach.ensures.others (fresh_there ks at k lt c.index-place.ensures);
    }
