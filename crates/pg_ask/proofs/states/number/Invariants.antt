use Rattle.std.proofs.Common.{◌≡◌, ◌-◌, drop, length}
use Rattle.pg_vec.specs.Number.{number}
use Rattle.pg_ask.proofs.states.number.Given as goal

abbrev pub invariant-loop-k : goal.invariant-loop-k
invariant-loop-k l = l.number ≡ number l.assignment (drop (length l.gates - l.k) l.gates)
