use Rattle.std.proofs.Common.{◌≡◌, drop}
use Rattle.pg_lang_valid.specs.Widths.{width_broken}
use Rattle.pg_lang_valid.proofs.widths.width_broken.Given as goal

abbrev pub invariant-loop-k : goal.invariant-loop-k
invariant-loop-k l = width_broken l.desc l.k (drop l.k l.desc.instrs) ≡ width_broken l.desc 0 l.desc.instrs
