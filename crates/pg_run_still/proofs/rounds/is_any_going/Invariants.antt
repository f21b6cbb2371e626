use Rattle.std.proofs.Common.{◌≡◌, All, take, None}
use Rattle.pg_run_still.proofs.rounds.is_any_going.Given as goal

abbrev pub invariant-loop-rest : goal.invariant-loop-rest
invariant-loop-rest l = record {
  none : All (λ rest. rest.still ≡ None → ⊥) (take l.rest-index l.rests);
}
