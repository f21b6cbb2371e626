use Rattle.std.proofs.Common.{◌≡◌, drop, max}
use Rattle.pg_proof.specs.State.{variables_of_clause}
use Rattle.pg_proof.proofs.question.greatest_in.Given as goal

abbrev pub invariant-loop-literal : goal.invariant-loop-literal
invariant-loop-literal l = max l.greatest (variables_of_clause (drop l.literal-index l.literals)) ≡ variables_of_clause l.literals
