use Rattle.std.proofs.Common.{◌≡◌, drop}
use Rattle.pg_cert.specs.Lines.{ascend, most_number}
use Rattle.pg_cert.proofs.ranges.ascend.Given as goal

abbrev pub invariant-loop-number : goal.invariant-loop-number
invariant-loop-number l = ascend most_number l.above (drop l.number-index l.numbers) ≡ ascend most_number 0 l.numbers
