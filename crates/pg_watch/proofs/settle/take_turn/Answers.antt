use Rattle.pg_watch.proofs.Keeps.{Keeps-trail}
use Rattle.pg_watch.proofs.RunLemmas.{Runs-more, Runs-keeps}
use Rattle.pg_watch.proofs.settle.take_turn.Goals as goal

pub returns-in-Ok-Quiet-clause-runs : goal.returns-in-Ok-Quiet-clause-runs
returns-in-Ok-Quiet-clause-runs c =
    let r = c.run_queue.ensures.runs in
    Runs-more _ _ _ _ _ _ _ _ _ _ _ _ _ r (Runs-keeps _ _ _ _ _ _ _ _ (Keeps-trail _ _ _ _ _ c.look_at_each.ensures.steps) r.within)
