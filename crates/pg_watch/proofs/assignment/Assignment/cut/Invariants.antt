use Rattle.std.proofs.Common.{◌≡◌, length}
use Rattle.pg_watch.specs.Trail.{cut}
use Rattle.pg_watch.proofs.assignment.Assignment.cut.Given as goal

abbrev pub invariant-loop-self : goal.invariant-loop-self
invariant-loop-self l = cut l.self l.len ≡ cut l.initial.self l.len

abbrev pub decreases-loop-self : goal.decreases-loop-self
decreases-loop-self l = length l.self.literals
