use Rattle.pg_prog_trace.proofs.trace.run.Goals as goal

pub returns-clause-traced : goal.returns-clause-traced
returns-clause-traced g c = record { given = c.trace.result; is = c.code.ensures; traced = c.trace.ensures.traced }
