use Rattle.std.proofs.Common.{◌≡◌, ◌++◌, Some, drop}
use Rattle.pg_cert.specs.Reading.{then_read, read_words}
use Rattle.pg_cert.proofs.reading.words.Given as goal

abbrev pub invariant-loop-at : goal.invariant-loop-at
invariant-loop-at l =
    read_words l.w (drop l.fn.from l.parts) ≡ then_read (read_words l.w (drop l.at l.parts)) (λ xs. Some (l.words ++ xs))
