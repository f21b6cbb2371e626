use Rattle.std.proofs.Common.{◌≡◌, drop}
use Rattle.std.specs.Prelude.{max}
use Rattle.pg_prog_base.specs.Dimacs.{greatest_variable}
use Rattle.pg_prog_base.proofs.text.greatest_variable.Given as goal

abbrev pub invariant-loop-clause : goal.invariant-loop-clause
invariant-loop-clause l = max l.most (greatest_variable (drop l.clause-index l.clauses)) ≡ greatest_variable l.clauses
