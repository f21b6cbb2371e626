use Rattle.pg_watch.proofs.Steps.{Steps-more}
use Rattle.pg_watch.proofs.Passes.{Passed-next}
use Rattle.pg_watch.proofs.fresh.look_at_each.Goals as goal

pub returns-in-Ok-Conflict-clause-steps : goal.returns-in-Ok-Conflict-clause-steps
returns-in-Ok-Conflict-clause-steps c = Steps-more _ _ _ _ c.loop-place.invariant.steps c.look_and_set.ensures.steps

pub returns-in-Err-clause-steps : goal.returns-in-Err-clause-steps
returns-in-Err-clause-steps c = Steps-more _ _ _ _ c.loop-place.invariant.steps c.look_and_set.ensures.steps

pub loop-place-preserved : goal.loop-place-preserved
loop-place-preserved c =
    Passed-next _ _ _ _ _ _ _ c.loop-place.invariant c.loop-place-test.true c.look_and_set.ensures.steps c.in-Ok-Quiet.ensures.looked c.in-Ok-Quiet.field-0-is
