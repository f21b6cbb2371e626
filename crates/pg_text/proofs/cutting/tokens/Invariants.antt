use Rattle.std.proofs.Common.{◌-◌, length}
use Rattle.pg_text.proofs.CutSteps.{CutSoFar}
use Rattle.pg_text.proofs.cutting.tokens.Given as goal

abbrev pub invariant-loop-at : goal.invariant-loop-at
invariant-loop-at l = CutSoFar l.bytes l.list l.at

abbrev pub decreases-loop-at : goal.decreases-loop-at
decreases-loop-at l = length l.bytes - l.at
