use Rattle.std.proofs.Common.{◌≡◌, take}
use Rattle.pg_replay.proofs.same.are_same.Given as goal

abbrev pub invariant-loop-k : goal.invariant-loop-k
invariant-loop-k l = take l.k l.x ≡ take l.k l.y
