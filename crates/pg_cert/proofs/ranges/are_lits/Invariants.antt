use Rattle.std.proofs.Common.{◌≡◌, drop, map}
use Rattle.std.specs.Prelude.{nat_abs}
use Rattle.pg_cert.specs.Lines.{ascend, are_lits, most_variable}
use Rattle.pg_cert.proofs.ranges.are_lits.Given as goal

abbrev pub invariant-loop-lit : goal.invariant-loop-lit
invariant-loop-lit l = ascend most_variable l.above (map nat_abs (drop l.lit-index l.lits)) ≡ are_lits l.lits
