use Rattle.std.proofs.Common.{◌≡◌, length, drop}
use Rattle.pg_proof.specs.Places.{AreWithin}
use Rattle.pg_proof.specs.Marked.{marked}
use Rattle.pg_sat.proofs.flags.Flags.mark.Given as goal

abbrev pub invariant-loop-literal : goal.invariant-loop-literal
invariant-loop-literal l = record {
  rest : marked l.self (drop l.literal-index l.clause) ≡ marked l.initial.self l.clause;
  within : AreWithin (length l.self) (drop l.literal-index l.clause);
}
