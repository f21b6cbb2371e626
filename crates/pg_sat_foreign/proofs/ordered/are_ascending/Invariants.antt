use Rattle.std.proofs.Common.{◌≡◌, drop}
use Rattle.pg_proof.specs.Refutation.{are_ascending}
use Rattle.pg_sat_foreign.proofs.ordered.are_ascending.Given as goal

abbrev pub invariant-loop-literal : goal.invariant-loop-literal
invariant-loop-literal l =
    are_ascending l.variables l.above (drop l.literal-index l.literals) ≡ are_ascending l.variables 0 l.literals
