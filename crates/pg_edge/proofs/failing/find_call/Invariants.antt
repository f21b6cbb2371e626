use Rattle.std.proofs.Common.{◌≡◌, drop}
use Rattle.pg_edge.specs.Failing.{taken_by}
use Rattle.pg_edge.proofs.failing.find_call.Given as goal

abbrev pub invariant-loop-number : goal.invariant-loop-number
invariant-loop-number l = taken_by (drop l.number-index l.listed) l.call ≡ taken_by l.listed l.call
