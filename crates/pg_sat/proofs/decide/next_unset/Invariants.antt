use Rattle.pg_sat.specs.Models.{AreAllSet}
use Rattle.pg_sat.proofs.decide.next_unset.Given as goal

abbrev pub invariant-loop-index : goal.invariant-loop-index
invariant-loop-index l = AreAllSet l.index l.watches.trail.literals
