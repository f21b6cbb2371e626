use Rattle.pg_classify.specs.Trying.{IsShown}
use Rattle.pg_classify.proofs.shrinking.tries_words.Given as goal

abbrev pub invariant-loop-place : goal.invariant-loop-place
invariant-loop-place l = IsShown l.aim l.pair
