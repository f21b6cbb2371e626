use Rattle.pg_classify.specs.Trying.{IsShown}
use Rattle.pg_classify.proofs.shrinking.tries_bits.Given as goal

abbrev pub invariant-loop-blocks : goal.invariant-loop-blocks
invariant-loop-blocks l = IsShown l.aim l.pair
