use Rattle.std.proofs.Common.{◌≡◌, length}
use Rattle.pg_proof.proofs.RemovalLemmas.{AreSeen}
use Rattle.pg_proof.proofs.removal.are_held.Given as goal

abbrev pub invariant-loop-number : goal.invariant-loop-number
invariant-loop-number l = record {
  seen : AreSeen l.clauses l.flags l.numbers l.number-index;
  places : length l.flags ≡ length l.initial.flags;
}
