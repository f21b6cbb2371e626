use Rattle.std.proofs.Common.{◌-◌, ◌<◌, neg_ℤ, pos, slice_index_or, arith}
use Rattle.pg_sat.proofs.ThinLemmas.{fewer_then, apart_neg, apart_both}
use Rattle.pg_sat.proofs.shrink.shrink.Goals as goal

pub loop-at-preserved : goal.loop-at-preserved
loop-at-preserved c =
    let t = c.args.watches.now.trail in
    let cs = c.args.watches.now.clauses in
    let lt : c.loop-at.at - 1 < c.args.from = omega (arith, c.loop-at-test.true, c.loop-at.invariant.below) in
    record {
      below = omega (arith, c.loop-at.invariant.below);
      thin = c.in_ok-shrink_at.ensures.thin;
      fewer = fewer_then c.args.trace.now.flags c.loop-at.trace.flags c.shrink_at.new.trace.flags (neg_ℤ (slice_index_or t.literals c.args.from (pos 0))) c.loop-at.invariant.fewer
          (c.in_ok-shrink_at.ensures.fewer (neg_ℤ (slice_index_or t.literals c.args.from (pos 0)))
          (apart_neg c.args.variables cs t c.requires.over c.trail-trail.ensures.right (c.loop-at.at - 1) c.args.from lt c.requires.there)
          (apart_both c.args.variables cs t c.requires.over c.trail-trail.ensures.right (c.loop-at.at - 1) c.args.from lt c.requires.there));
    }
