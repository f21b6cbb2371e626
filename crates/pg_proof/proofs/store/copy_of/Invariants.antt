use Rattle.std.proofs.Common.{◌≡◌, take}
use Rattle.pg_proof.proofs.store.copy_of.Given as goal

abbrev pub invariant-loop-i : goal.invariant-loop-i
invariant-loop-i l = l.made ≡ take l.i l.store
