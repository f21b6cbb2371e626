use Rattle.std.proofs.Common.{◌≡◌, drop}
use Rattle.pg_lang_valid.specs.Overlaps.{pattern_broken}
use Rattle.pg_lang_valid.proofs.well_formed.pattern_broken.Given as goal

abbrev pub invariant-loop-k : goal.invariant-loop-k
invariant-loop-k l = pattern_broken l.word l.k (drop l.k l.instrs) ≡ pattern_broken l.word 0 l.instrs
