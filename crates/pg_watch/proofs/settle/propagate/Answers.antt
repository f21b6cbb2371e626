use Rattle.std.proofs.Common.{arith, subst}
use Rattle.pg_watch.specs.Runs.{IsTurned, IsTurn}
use Rattle.pg_watch.proofs.Short.{AreSet-short}
use Rattle.pg_watch.proofs.Removes.{IsIndex-keeps}
use Rattle.pg_watch.proofs.RunLemmas.{Runs-more}
use Rattle.pg_watch.proofs.settle.propagate.Goals as goal

pub returns-then-len-head-clause-runs : goal.returns-then-len-head-clause-runs
returns-then-len-head-clause-runs c = Runs-more _ _ _ _ _ _ _ _ _ _ _ _ _ c.turns.invariant.runs c.take_turn.ensures.runs

pub turns-smaller : goal.turns-smaller
turns-smaller c =
    let r = c.take_turn.ensures.runs in
    let turn : IsTurn c.args.clauses.now c.turns.trail c.take_turn.new.trail c.args.places.now c.take_turn.new.head =
    subst (IsTurned c.args.clauses.now c.turns.trail c.take_turn.new.trail c.args.places.now c.take_turn.new.head) c.in-Ok-Quiet.field-0-is c.in-Ok-Quiet.ensures.turned in
    omega (
      arith,
      turn.far,
      r.within,
      c.len.ensures.len,
      c.if-len-head.false,
      r.keeps.steps.extends.variables,
      AreSet-short c.take_turn.new.trail.variables c.take_turn.new.trail.literals r.keeps.steps.trail.set,
    )

pub turns-preserved : goal.turns-preserved
turns-preserved c = record {
  index = IsIndex-keeps _ _ _ _ _ _ _ c.turns.invariant.index c.take_turn.ensures.runs.keeps;
  runs = Runs-more _ _ _ _ _ _ _ _ _ _ _ _ _ c.turns.invariant.runs c.take_turn.ensures.runs;
}

pub returns-in-Ok-Conflict-clause-runs : goal.returns-in-Ok-Conflict-clause-runs
returns-in-Ok-Conflict-clause-runs c = Runs-more _ _ _ _ _ _ _ _ _ _ _ _ _ c.turns.invariant.runs c.take_turn.ensures.runs

pub returns-in-Err-clause-runs : goal.returns-in-Err-clause-runs
returns-in-Err-clause-runs c = Runs-more _ _ _ _ _ _ _ _ _ _ _ _ _ c.turns.invariant.runs c.take_turn.ensures.runs
