use Rattle.std.proofs.Common.{◌≡◌, ◌+◌, ◌-◌, ℕ, arith, length, drop, subst, sym, ap, []}
use Rattle.std.proofs.lemmas.List.{drop_all}
use Rattle.pg_watch.specs.Trail.{AreDerived}
use Rattle.pg_watch.proofs.Steps.{length-reasons}
use Rattle.pg_sat.proofs.JumpLemmas.{last-here}
use Rattle.pg_sat.proofs.jump.last_assigned.Goals as goal

pub loop-at-init : goal.loop-at-init
loop-at-init c =
    let t = c.args.watches.now.trail in
    let long = length-reasons c.args.watches.now.clauses [] t.literals t.reasons c.trail-at.ensures.right.reasoned in
    let same : length c.trail-at.result.now ≡ length t.literals = ap length c.trail-at.ensures.literals in
    record {
      within = omega (arith, long, same);
      propagated = subst AreDerived (sym (drop_all (length c.trail-at.result.now) t.reasons (omega (arith, long, same)))) tt;
    }

pub reason-requires : goal.reason-requires
reason-requires c =
    let t = c.args.watches.now.trail in
    let long = length-reasons c.args.watches.now.clauses [] t.literals t.reasons c.trail-at.ensures.right.reasoned in
    omega (arith, long, c.loop-at.invariant.within)

pub returns-in-None : goal.returns-in-None
returns-in-None c =
    let e : c.loop-at.at - 1 + 1 ≡ c.loop-at.at = omega arith in
    last-here c.args.watches.now.trail (c.loop-at.at - 1) (omega (arith, c.loop-at.invariant.within)) (sym c.in-None.ensures)
    (subst (λ (k : ℕ). AreDerived (drop k c.args.watches.now.trail.reasons)) (sym e) c.loop-at.invariant.propagated)
