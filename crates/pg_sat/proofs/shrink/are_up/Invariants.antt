use Rattle.std.proofs.Common.{◌≡◌, ◌≢◌, ◌⊎◌, ℤ, true, length, drop}
use Rattle.pg_proof.specs.Places.{has, is_marked, AreWithin}
use Rattle.pg_sat.proofs.shrink.are_up.Given as goal

abbrev pub invariant-loop-literal : goal.invariant-loop-literal
invariant-loop-literal l = record {
  within : AreWithin (length l.flags) (drop l.literal-index l.clause);
  seen : (y : ℤ) → has l.clause y ≡ true → y ≢ l.but → (is_marked l.flags y ≡ true) ⊎ (has (drop l.literal-index l.clause) y ≡ true);
}
