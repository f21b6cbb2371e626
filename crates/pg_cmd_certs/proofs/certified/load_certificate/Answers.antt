use Rattle.pg_cmd_certs.proofs.certified.load_certificate.Goals as goal

pub returns-in-Err-clause-comes : goal.returns-in-Err-clause-comes
returns-in-Err-clause-comes g c = c.in-Err.ensures.stops c.args.machine.now.desc c.args.family
