use Rattle.std.proofs.Common.{length}
use Rattle.pg_proof.specs.Places.{is_marked}
use Rattle.pg_proof.proofs.ReadingLemmas.{IsReadOn}
use Rattle.pg_proof.proofs.propagation.read.Given as goal

abbrev pub invariant-loop-literal : goal.invariant-loop-literal
invariant-loop-literal l = IsReadOn (is_marked l.flags) l.clause (length l.flags) l.literal-index l.reading
