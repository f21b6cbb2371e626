use Rattle.std.proofs.Common.{◌≡◌, ◌++◌, drop, map}
use Rattle.pg_asm.specs.Words.{value_in, values_in}
use Rattle.pg_asm.proofs.words.values_in.Given as goal

abbrev pub invariant-loop-field : goal.invariant-loop-field
invariant-loop-field l = l.values ++ map (value_in l.word) (drop l.field-index l.field-items) ≡ values_in l.pattern l.word
