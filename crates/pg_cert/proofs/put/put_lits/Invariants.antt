use Rattle.std.proofs.Common.{◌≡◌, ◌++◌, drop, map}
use Rattle.std.specs.Fmt.{signed_decimal}
use Rattle.pg_cert.specs.Lines.{spaced}
use Rattle.pg_cert.proofs.put.put_lits.Given as goal

abbrev pub invariant-loop-lit : goal.invariant-loop-lit
invariant-loop-lit l = l.into.items ++ spaced (map signed_decimal (drop l.lit-index l.lits)) ≡ l.initial.into.items ++ spaced (map signed_decimal l.lits)
