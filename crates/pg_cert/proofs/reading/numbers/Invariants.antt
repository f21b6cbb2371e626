use Rattle.std.proofs.Common.{◌≡◌, ◌++◌, Some, drop}
use Rattle.pg_cert.specs.Reading.{then_read, read_numbers}
use Rattle.pg_cert.proofs.reading.numbers.Given as goal

abbrev pub invariant-loop-at : goal.invariant-loop-at
invariant-loop-at l =
    read_numbers (drop l.fn.from l.parts) ≡ then_read (read_numbers (drop l.at l.parts)) (λ ns. Some (l.numbers ++ ns))
