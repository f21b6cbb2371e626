use Rattle.std.proofs.Common.{◌≡◌, drop}
use Rattle.pg_cnf.specs.Truth.{clause_true}
use Rattle.pg_prog_base.proofs.assignment.is_true.Given as goal

abbrev pub invariant-loop-literal : goal.invariant-loop-literal
invariant-loop-literal l = clause_true l.assignment (drop l.literal-index l.literals) ≡ clause_true l.assignment l.literals
