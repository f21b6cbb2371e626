use Rattle.pg_watch.proofs.Passes.{Passed}
use Rattle.pg_watch.proofs.fresh.look_at_each.Given as goal

abbrev pub invariant-loop-place : goal.invariant-loop-place
invariant-loop-place l = Passed l.clauses l.initial.trail l.trail l.places l.place-index
