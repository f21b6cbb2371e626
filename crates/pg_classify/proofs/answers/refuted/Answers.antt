use Rattle.std.proofs.Common.{◌∙◌, subst}
use Rattle.pg_cnf.specs.declared.clause.Cnf.{Cnf}
use Rattle.pg_proof.specs.Trimmed.{IsTrimmed}
use Rattle.pg_classify.proofs.FoundLemmas.{refuted_found}
use Rattle.pg_classify.proofs.answers.refuted.Goals as goal

pub returns : goal.returns
returns c = λ i at.
    let asked = c.args.asked.now in
    let acts = c.in_ok-acts.acts in
    refuted_found asked.cnf.clauses asked.cnf.variables c.args.budget asked.cnf.are_clauses asked.cnf.few_variables asked.cnf.few_clauses c.requires.most
    asked.machine.now.desc i asked.kind c.args.steps c.as_slice.result.now acts c.requires.closed (c.as_slice.ensures ∙ c.in_ok-log.ensures)
    (subst (λ (cnf : Cnf). IsTrimmed cnf.clauses c.as_slice.result.now acts) c.cnf.ensures c.in_ok-acts.ensures)
