use Rattle.std.proofs.Common.{◌≡◌, ◌++◌, drop, map}
use Rattle.std.specs.Fmt.{decimal}
use Rattle.pg_cert.specs.Lines.{spaced}
use Rattle.pg_cert.proofs.put.put_numbers.Given as goal

abbrev pub invariant-loop-number : goal.invariant-loop-number
invariant-loop-number l = l.into.items ++ spaced (map decimal (drop l.number-index l.numbers)) ≡ l.initial.into.items ++ spaced (map decimal l.numbers)
