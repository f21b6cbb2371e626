use Rattle.std.proofs.Common.{drop}
use Rattle.pg_cnf.specs.Literals.{AreLiterals}
use Rattle.pg_watch.proofs.look.has_true.Given as goal

abbrev pub invariant-loop-lit : goal.invariant-loop-lit
invariant-loop-lit l = AreLiterals l.trail.variables (drop l.lit-index l.clause)
