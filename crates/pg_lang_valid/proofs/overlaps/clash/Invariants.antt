use Rattle.std.proofs.Common.{◌≡◌, drop}
use Rattle.pg_lang_valid.specs.Overlaps.{clash}
use Rattle.pg_lang_valid.proofs.overlaps.clash.Given as goal

abbrev pub invariant-loop-i : goal.invariant-loop-i
invariant-loop-i l = clash (drop l.i l.p) (drop l.i l.q) ≡ clash l.p l.q
