use Rattle.std.proofs.Common.{drop}
use Rattle.pg_cnf.specs.Literals.{AreLiterals}
use Rattle.pg_watch.specs.Trail.{AreFalseBut}
use Rattle.pg_watch.proofs.look.open_literal.Given as goal

abbrev pub invariant-loop-lit : goal.invariant-loop-lit
invariant-loop-lit l = record {
  literals : AreLiterals l.trail.variables (drop l.lit-index l.clause);
  rest : AreFalseBut l.trail.literals l.but (drop l.lit-index l.clause) → AreFalseBut l.trail.literals l.but l.clause;
}
