use Rattle.std.proofs.Common.{◌≡◌, ◌++◌, drop}
use Rattle.pg_cnf.specs.Encoded.{clause_of, AreApart}
use Rattle.pg_cnf.proofs.encoding.literals_of.Given as goal

abbrev pub invariant-loop-gate : goal.invariant-loop-gate
invariant-loop-gate l = record {
  literals : l.literals.items ++ clause_of (drop l.gate-index l.gates) ≡ clause_of l.gates;
  apart : AreApart l.variables (drop l.gate-index l.gates);
}
