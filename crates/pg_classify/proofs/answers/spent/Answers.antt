use Rattle.pg_classify.proofs.FoundLemmas.{spent_found}
use Rattle.pg_classify.proofs.answers.spent.Goals as goal

pub returns : goal.returns
returns c = λ i at.
    let asked = c.args.asked.now in
    spent_found asked.cnf.clauses asked.cnf.variables c.args.budget asked.cnf.are_clauses asked.cnf.few_variables asked.cnf.few_clauses c.requires.most
    asked.machine.now.desc i asked.kind c.args.steps c.requires.exhausted c.requires.least
