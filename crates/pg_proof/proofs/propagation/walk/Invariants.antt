use Rattle.pg_proof.proofs.WalkLemmas.{AreWalked}
use Rattle.pg_proof.proofs.propagation.walk.Given as goal

abbrev pub invariant-loop-i : goal.invariant-loop-i
invariant-loop-i l = AreWalked l.clauses l.initial.flags l.flags l.hints l.i
