use Rattle.pg_proof.proofs.UseLemmas.{AreFlagged}
use Rattle.pg_proof.proofs.trimming.used_clauses.Given as goal

abbrev pub invariant-loop-left : goal.invariant-loop-left
invariant-loop-left l = AreFlagged l.question l.acts l.flags l.number l.left

abbrev pub decreases-loop-left : goal.decreases-loop-left
decreases-loop-left l = l.left
