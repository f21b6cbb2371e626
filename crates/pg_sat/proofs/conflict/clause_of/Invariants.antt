use Rattle.std.proofs.Common.{◌≡◌, take}
use Rattle.pg_sat.proofs.conflict.clause_of.Given as goal

abbrev pub invariant-loop-literal : goal.invariant-loop-literal
invariant-loop-literal l = l.literals.items ≡ take l.literal-index l.lits
