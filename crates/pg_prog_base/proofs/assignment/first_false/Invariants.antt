use Rattle.std.proofs.Common.{◌≡◌, drop}
use Rattle.pg_cnf.specs.Truth.{clauses_true}
use Rattle.pg_prog_base.proofs.assignment.first_false.Given as goal

abbrev pub invariant-loop-place : goal.invariant-loop-place
invariant-loop-place l = clauses_true l.assignment (drop l.place l.clauses) ≡ clauses_true l.assignment l.clauses
