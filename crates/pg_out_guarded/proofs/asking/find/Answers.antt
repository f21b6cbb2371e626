use Rattle.pg_out_guarded.proofs.AskingLemmas.{found-means}
use Rattle.pg_out_guarded.proofs.asking.find.Goals as goal

pub returns-clause-means : goal.returns-clause-means
returns-clause-means c =
    found-means c.args.machine.now.desc c.args.family c.args.budget c.in_ok-cert.cert c.in_ok-report.report c.args.machine.now.valid c.in_ok-cert.ensures
    c.in_ok-report.ensures.family c.in_ok-report.ensures.marks
