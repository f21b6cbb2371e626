use Rattle.std.proofs.Common.{◌≡◌, drop, max}
use Rattle.pg_proof.specs.State.{variables_of}
use Rattle.pg_proof.proofs.question.greatest_variable.Given as goal

abbrev pub invariant-loop-clause : goal.invariant-loop-clause
invariant-loop-clause l = max l.greatest (variables_of (drop l.clause-index l.clauses)) ≡ variables_of l.clauses
