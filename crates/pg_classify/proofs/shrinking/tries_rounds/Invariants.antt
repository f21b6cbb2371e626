use Rattle.pg_classify.specs.Trying.{IsShown}
use Rattle.pg_classify.proofs.shrinking.tries_rounds.Given as goal

abbrev pub invariant-loop : goal.invariant-loop
invariant-loop l = IsShown l.aim l.pair
