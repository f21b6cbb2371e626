use Rattle.pg_alloc.proofs.GapLemmas.{Passed}
use Rattle.pg_alloc.proofs.gap.first_gap.Given as goal

abbrev pub invariant-loop-place : goal.invariant-loop-place
invariant-loop-place l = Passed l.fn.q l.fn.grants l.fn.size l.place l.base
