use Rattle.std.proofs.Common.{◌≡◌, ◌++◌, length}
use Rattle.pg_read.proofs.goals.Goals.push_all.Given as goal

abbrev pub invariant-loop-last : goal.invariant-loop-last
invariant-loop-last l = l.rest ++ l.self ≡ l.fn.goals ++ l.fn.self

abbrev pub decreases-loop-last : goal.decreases-loop-last
decreases-loop-last l = length l.rest
