use Rattle.std.proofs.Common.{◌≡◌, ◌+◌, ◌≤◌, length, drop, true}
use Rattle.pg_asm.specs.Words.{word_by, word_behind, fit, fields_behind}
use Rattle.pg_asm.proofs.words.word_by.Given as goal

abbrev pub invariant-loop-byte : goal.invariant-loop-byte
invariant-loop-byte l = record {
  sum : l.word + word_behind l.before l.left (drop l.k l.values) ≡ word_by l.fn.pattern l.values;
  fit : fit (fields_behind l.before l.left) (drop l.k l.values) ≡ true;
  short : length l.left ≤ 64;
}

abbrev pub decreases-loop-byte : goal.decreases-loop-byte
decreases-loop-byte l = length l.left
