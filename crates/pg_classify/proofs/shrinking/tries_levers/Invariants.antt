use Rattle.pg_classify.specs.Trying.{IsShown}
use Rattle.pg_classify.proofs.shrinking.tries_levers.Given as goal

abbrev pub invariant-loop-lever : goal.invariant-loop-lever
invariant-loop-lever l = IsShown l.aim l.pair
