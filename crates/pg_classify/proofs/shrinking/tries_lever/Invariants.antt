use Rattle.pg_classify.specs.Trying.{IsShown}
use Rattle.pg_classify.proofs.shrinking.tries_lever.Given as goal

abbrev pub invariant-loop-step : goal.invariant-loop-step
invariant-loop-step l = IsShown l.aim l.pair

abbrev pub decreases-loop-step : goal.decreases-loop-step
decreases-loop-step l = l.step
