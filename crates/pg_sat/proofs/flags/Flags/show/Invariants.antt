use Rattle.std.proofs.Common.{length, drop}
use Rattle.pg_proof.specs.Places.{AreWithin}
use Rattle.pg_sat.proofs.flags.Flags.show.Given as goal

abbrev pub invariant-loop-literal : goal.invariant-loop-literal
invariant-loop-literal l = AreWithin (length l.self) (drop l.literal-index l.clause)
