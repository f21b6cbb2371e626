use Rattle.std.proofs.Common.{◌≡◌, ◌++◌, drop}
use Rattle.pg_prog_base.specs.Dimacs.{clauses_text}
use Rattle.pg_prog_base.proofs.text.push_clauses.Given as goal

abbrev pub invariant-loop-clause : goal.invariant-loop-clause
invariant-loop-clause l = l.text.items ++ clauses_text (drop l.clause-index l.clauses) ≡ l.initial.text.items ++ clauses_text l.clauses
