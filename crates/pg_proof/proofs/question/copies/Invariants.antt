use Rattle.std.proofs.Common.{◌≡◌, ◌++◌, drop, map, Some}
use Rattle.pg_proof.proofs.question.copies.Given as goal

abbrev pub invariant-loop-clause : goal.invariant-loop-clause
invariant-loop-clause l = l.made ++ map Some (drop l.clause-index l.clauses) ≡ map Some l.clauses
