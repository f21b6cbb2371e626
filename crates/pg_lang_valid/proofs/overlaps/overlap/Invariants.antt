use Rattle.std.proofs.Common.{◌≡◌, drop}
use Rattle.pg_lang_valid.specs.Overlaps.{overlap}
use Rattle.pg_lang_valid.proofs.overlaps.overlap.Given as goal

abbrev pub invariant-loop-k : goal.invariant-loop-k
invariant-loop-k l = overlap l.k (drop l.k l.instrs) ≡ overlap 0 l.instrs
