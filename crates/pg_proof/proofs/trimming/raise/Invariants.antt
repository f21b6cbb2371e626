use Rattle.std.proofs.Common.{◌≡◌, length, drop}
use Rattle.pg_proof.specs.Numbering.{raised}
use Rattle.pg_proof.proofs.trimming.raise.Given as goal

abbrev pub invariant-loop-number : goal.invariant-loop-number
invariant-loop-number l = record {
  rest : raised l.flags (drop l.number-index l.numbers) ≡ raised l.initial.flags l.numbers;
  places : length l.flags ≡ length l.initial.flags;
}
