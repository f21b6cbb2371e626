use Rattle.pg_proof.specs.Places.{is_marked}
use Rattle.pg_proof.proofs.CoverLemmas.{AreLeft}
use Rattle.pg_proof.proofs.cover.list_passes.Given as goal

abbrev pub invariant-loop-number : goal.invariant-loop-number
invariant-loop-number l = AreLeft (is_marked l.flags) l.clauses l.links l.first l.number

abbrev pub decreases-loop-number : goal.decreases-loop-number
decreases-loop-number l = l.number
