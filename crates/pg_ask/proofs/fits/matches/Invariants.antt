use Rattle.std.proofs.Common.{drop}
use Rattle.pg_ask.specs.Fits.{matches_made}
use Rattle.pg_ask.proofs.CodeSteps.{Matched}
use Rattle.pg_ask.proofs.fits.matches.Given as goal

abbrev pub invariant-loop-i : goal.invariant-loop-i
invariant-loop-i l = Matched l.fn.circuit.nodes (matches_made l.fn.circuit.nodes l.fn.so_far l.pattern l.word) l.gate l.circuit.nodes (matches_made l.circuit.nodes l.gate (drop l.i l.pattern) l.word)
