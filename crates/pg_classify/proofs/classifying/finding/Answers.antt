use Rattle.pg_classify.proofs.FoundLemmas.{found_at}
use Rattle.pg_classify.proofs.classifying.finding.Goals as goal

pub returns : goal.returns
returns g c =
    let asked = c.in_ok-asked.asked in
    found_at asked.machine.now c.args.machine.now asked.instr c.args.instr asked.kind c.args.kind asked.cnf.clauses c.args.budget c.found.result
    c.in_ok-asked.ensures.machine c.in_ok-asked.ensures.instr c.in_ok-asked.ensures.kind c.in_ok-asked.ensures.question c.found.ensures
