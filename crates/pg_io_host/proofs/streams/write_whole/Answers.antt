use Rattle.pg_io_host.proofs.StreamLemmas.{wrote-more, wrote-front, wrote-kept}
use Rattle.pg_io_host.proofs.streams.write_whole.Goals as goal

pub returns-in_err-taken-clause-front : goal.returns-in_err-taken-clause-front
returns-in_err-taken-clause-front g c = wrote-kept _ _ _ _ _ _ c.loop.invariant c.in_err-taken.ensures.kept

pub loop-preserved : goal.loop-preserved
loop-preserved g c = wrote-more _ _ _ _ _ _ c.loop.invariant c.in_ok-taken.ensures.taken

pub returns-clause-front : goal.returns-clause-front
returns-clause-front g c = wrote-front _ _ _ _ c.loop.invariant
