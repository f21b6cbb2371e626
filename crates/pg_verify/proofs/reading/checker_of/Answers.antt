use Rattle.std.proofs.Common.{ap, ◌∙◌}
use Rattle.pg_cnf.specs.declared.clause.Cnf.{Cnf}
use Rattle.pg_verify.proofs.NameLemmas.{log_of_question, few_numbered}
use Rattle.pg_verify.proofs.reading.checker_of.Goals as goal

pub returns-clause-begun : goal.returns-clause-begun
returns-clause-begun c =
    let asked = c.in_ok-asked.asked in
    log_of_question c.args.machine.now.desc c.args.kind c.args.instr c.cnf.result.now.clauses c.new.result c.requires
    (λ i e. ap (λ (x : Cnf). x.clauses) c.cnf.ensures ∙ c.in_ok-asked.ensures.question i e) c.new.ensures.state

pub returns-clause-few : goal.returns-clause-few
returns-clause-few c = few_numbered c.cnf.result.now.clauses c.new.result c.cnf.result.now.few_clauses c.new.ensures.state
