use Rattle.pg_io_host.proofs.StreamLemmas.{Wrote}
use Rattle.pg_io_host.proofs.streams.write_whole.Given as goal

abbrev pub invariant-loop : goal.invariant-loop
invariant-loop g l = Wrote (g.W.Write.contents l.initial.to) (g.W.Write.contents l.to) l.bytes l.rest
