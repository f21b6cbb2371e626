use Rattle.std.proofs.Common.{ap, sym, subst, ◌∙◌, arith}
use Rattle.std.specs.Prelude.{length}
use Rattle.pg_cnf.specs.declared.clause.Cnf.{Cnf}
use Rattle.pg_proof.specs.Trimmed.{IsTrimmed}
use Rattle.pg_prog_base.proofs.RightLemmas.{refuted_right}
use Rattle.pg_prog_base.proofs.finding.refuted.Goals as goal

pub trim-requires-clause-few : goal.trim-requires-clause-few
trim-requires-clause-few c = omega (arith, c.cnf.result.now.few_clauses, c.requires.few, ap length c.as_slice.ensures)

pub returns : goal.returns
returns c = λ i at.
    let asked = c.args.asked.now in
    let acts = c.in_ok-acts.acts in
    refuted_right asked.cnf.clauses asked.cnf.variables c.args.log.now acts asked.machine.now.desc i asked.kind asked.cnf.are_clauses
    asked.cnf.few_variables asked.cnf.few_clauses c.requires.few
    (subst (λ log. IsTrimmed asked.cnf.clauses log acts) c.as_slice.ensures
    (subst (λ (cnf : Cnf). IsTrimmed cnf.clauses c.as_slice.result.now acts) c.cnf.ensures c.in_ok-acts.ensures))
