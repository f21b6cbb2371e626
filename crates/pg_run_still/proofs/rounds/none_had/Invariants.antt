use Rattle.std.proofs.Common.{◌≡◌, All, length}
use Rattle.pg_run_still.proofs.GoingLemmas.{no_turns}
use Rattle.pg_run_still.proofs.rounds.none_had.Given as goal

abbrev pub invariant-loop : goal.invariant-loop
invariant-loop l = record {
  count : length l.rests.items ≡ l.counter;
  each : All (λ rest. rest ≡ no_turns) l.rests.items;
}
