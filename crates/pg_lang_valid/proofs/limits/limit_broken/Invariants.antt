use Rattle.std.proofs.Common.{◌≡◌, drop}
use Rattle.pg_lang_valid.specs.Limits.{limit_broken}
use Rattle.pg_lang_valid.proofs.limits.limit_broken.Given as goal

abbrev pub invariant-loop-k : goal.invariant-loop-k
invariant-loop-k l = limit_broken l.k (drop l.k l.instrs) ≡ limit_broken 0 l.instrs
