use Rattle.pg_proof.specs.Drafts.{AreKept}
use Rattle.pg_proof.proofs.trimming.kept_before.Given as goal

abbrev pub invariant-loop-i : goal.invariant-loop-i
invariant-loop-i l = AreKept l.cnf.clauses l.used l.log l.numbers.items l.made.items l.i
