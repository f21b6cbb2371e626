use Rattle.pg_prog_go.proofs.run.Goals as goal

pub returns-clause-goes : goal.returns-clause-goes
returns-clause-goes g c = record { given = c.go.result; is = c.code.ensures; goes = c.go.ensures.goes }
