use Rattle.pg_sat.specs.Models.{IsRead}
use Rattle.pg_sat.proofs.decide.assignment_of.Given as goal

abbrev pub invariant-loop-index : goal.invariant-loop-index
invariant-loop-index l = IsRead l.index l.watches.trail.literals l.assignment.items
