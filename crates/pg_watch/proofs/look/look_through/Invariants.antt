use Rattle.std.proofs.Common.{◌≡◌, drop, None}
use Rattle.pg_cnf.specs.Literals.{AreLiterals}
use Rattle.pg_watch.specs.Looks.{look_from}
use Rattle.pg_watch.proofs.look.look_through.Given as goal

abbrev pub invariant-loop-lit : goal.invariant-loop-lit
invariant-loop-lit l = record {
  literals : AreLiterals l.trail.variables (drop l.lit-index l.clause);
  rest : look_from l.trail.literals l.found (drop l.lit-index l.clause) ≡ look_from l.trail.literals None l.clause;
}
