use Rattle.pg_proof.proofs.RemovalLemmas.{AreTaken}
use Rattle.pg_proof.proofs.removal.take_away.Given as goal

abbrev pub invariant-loop-number : goal.invariant-loop-number
invariant-loop-number l = AreTaken l.initial.clauses l.clauses l.numbers l.number-index
