use Rattle.std.proofs.Common.{◌+◌, length}
use Rattle.pg_proof.proofs.TidyLemmas.{AreTidied}
use Rattle.pg_proof.proofs.tidying.tidied.Given as goal

abbrev pub invariant-loop-act : goal.invariant-loop-act
invariant-loop-act l = AreTidied l.question (l.question + length l.fn.acts.items + 1) l.fn.acts.items l.left.items l.flags l.made.items

abbrev pub decreases-loop-act : goal.decreases-loop-act
decreases-loop-act l = length l.left.items
