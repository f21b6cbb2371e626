use Rattle.std.proofs.Common.{◌≡◌, ◌++◌, ℤ, ℕ, List, Some, drop}
use Rattle.pg_cert.specs.Reading.{then_read, read_lits}
use Rattle.pg_cert.proofs.reading.lits.Given as goal

abbrev pub invariant-loop-at : goal.invariant-loop-at
invariant-loop-at l =
    read_lits (drop l.fn.from l.parts) ≡ then_read (read_lits (drop l.at l.parts)) (λ (r : List ℤ × List (List ℕ)). Some (l.lits ++ r.0, r.1))
