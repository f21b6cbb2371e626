use Rattle.std.proofs.Common.{◌≡◌, drop}
use Rattle.pg_lang_valid.specs.Overlaps.{overlap_with}
use Rattle.pg_lang_valid.proofs.overlaps.overlap_with.Given as goal

abbrev pub invariant-loop-j : goal.invariant-loop-j
invariant-loop-j l = overlap_with l.p l.j (drop l.j l.instrs) ≡ overlap_with l.p l.fn.from (drop l.fn.from l.instrs)
