use Rattle.std.proofs.Common.{◌≡◌, ◌++◌, ◌/◌, drop, map}
use Rattle.pg_text.specs.Printing.{hex_text}
use Rattle.pg_cert.specs.Lines.{spaced}
use Rattle.pg_cert.proofs.put.put_words.Given as goal

abbrev pub invariant-loop-word : goal.invariant-loop-word
invariant-loop-word l = l.into.items ++ spaced (map (hex_text (l.w / 4)) (drop l.word-index l.words)) ≡ l.initial.into.items ++ spaced (map (hex_text (l.w / 4)) l.words)
