use Rattle.std.proofs.Common.{◌≡◌, length}
use Rattle.pg_run_still.specs.Views.{low_bytes}
use Rattle.pg_run_still.proofs.ViewLemmas.{without_low}
use Rattle.pg_run_still.proofs.viewing.low_bytes.Given as goal

-- the bytes so far, and what is left of the word
abbrev pub invariant-loop : goal.invariant-loop
invariant-loop l = record {
  read : l.bytes.items ≡ low_bytes l.counter l.word;
  rest : l.rest ≡ without_low l.counter l.word;
  len : length l.bytes.items ≡ l.counter;
}
