use Rattle.std.proofs.Common.{◌≡◌, ◌+◌, ◌∙◌, ℤ, List, subst, arith}
use Rattle.std.specs.Prelude.{IfOk}
use Rattle.pg_sat.specs.Listed.{listed}
use Rattle.pg_sat.proofs.Drawn.{block_on, listed_whole}
use Rattle.pg_sat.proofs.draw.literals_up.Goals as goal

pub loop-first-smaller : goal.loop-first-smaller
loop-first-smaller c = omega (arith, c.end_of-end.ensures.later, c.end_of-end.ensures.within, c.loop-first-test.true)

pub loop-first-preserved : goal.loop-first-preserved
loop-first-preserved c = record {
  positive = omega (arith, c.end_of-end.ensures.later);
  within = c.end_of-end.ensures.within;
  rest = block_on _ _ _ _ _ _ _ (omega (arith, c.end_of-end.ensures.later)) c.end_of-end.ensures.within c.in_ok-push_block.ensures c.loop-first.invariant.rest;
}

pub returns : goal.returns
returns c =
    let whole = listed_whole c.args.flags.now c.loop-first.literals (listed c.args.flags.now 1 c.args.variables) c.loop-first.first (c.args.variables + 1)
    (omega (arith, c.loop-first-test.false)) c.loop-first.invariant.rest in
    subst (λ (xs : List ℤ). IfOk c.from_slice.result (λ literals. literals ≡ xs)) (c.as_slice.ensures ∙ whole) c.from_slice.ensures
