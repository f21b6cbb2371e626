use Rattle.std.proofs.Common.{◌≡◌, ◌+◌, ◌≤◌, length}
use Rattle.pg_asm.specs.Words.{kept_bits}
use Rattle.pg_asm.proofs.words.kept_bits.Given as goal

abbrev pub invariant-loop-byte : goal.invariant-loop-byte
invariant-loop-byte l = record {
  sum : l.kept + kept_bits l.left l.word ≡ kept_bits l.fn.pattern l.word;
  short : length l.left ≤ 64;
}

abbrev pub decreases-loop-byte : goal.decreases-loop-byte
decreases-loop-byte l = length l.left
