use Rattle.pg_classify.proofs.AllLemmas.{classified}
use Rattle.pg_classify.proofs.classifying.classify_watched.Goals as goal

pub returns : goal.returns
returns g c =
    let m = c.args.machine.now in
    classified m.desc m.valid c.args.family c.args.budget c.in_ok-findings.findings c.in_ok-findings.ensures.whole
    c.in_ok-findings.ensures.found
