use Rattle.std.proofs.Common.{◌≡◌, ◌+◌, drop}
use Rattle.pg_lang_meaning.specs.Patterns.{run_length}
use Rattle.pg_lang_meaning.proofs.patterns.run_length.Given as goal

abbrev pub invariant-loop-byte : goal.invariant-loop-byte
invariant-loop-byte l = record {
  run : l.run + run_length l.letter (drop l.byte-index l.pattern) ≡ run_length l.letter l.pattern;
  within : l.run ≡ l.byte-index;
}
