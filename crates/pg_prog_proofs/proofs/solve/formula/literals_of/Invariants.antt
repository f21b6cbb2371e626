use Rattle.std.proofs.Common.{◌/◌}
use Rattle.pg_prog_proofs.proofs.ClauseLemmas.{IsDraft}
use Rattle.pg_prog_proofs.proofs.solve.formula.literals_of.Given as goal

abbrev pub invariant-loop-code : goal.invariant-loop-code
invariant-loop-code l = IsDraft l.variables (l.last / 2) l.literals.items
