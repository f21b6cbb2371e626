use Rattle.std.proofs.Common.{ap, sym, subst, ◌∙◌, arith}
use Rattle.std.specs.Prelude.{length}
use Rattle.pg_cnf.specs.declared.clause.Cnf.{Cnf}
use Rattle.pg_proof.specs.Log.{IsClosedLog}
use Rattle.pg_proof.specs.Trimmed.{IsTrimmed}
use Rattle.pg_ask.specs.Question.{question}
use Rattle.pg_cert_migrate.proofs.MadeLemmas.{numbered, refuted_made, there}
use Rattle.pg_cert_migrate.proofs.making.refuted.Goals as goal

pub trim-requires-clause-closed : goal.trim-requires-clause-closed
trim-requires-clause-closed c =
    let d = c.args.machine.now.desc in
    there d c.args.instr c.requires.there (λ i at.
    subst (λ cs. IsClosedLog cs c.as_slice.result.now)
    (sym (ap (λ (x : Cnf). x.clauses) c.cnf.ensures ∙ c.in_ok-asked.ensures.question i at))
    (subst (λ log. IsClosedLog (question d i c.args.kind) log) (sym c.as_slice.ensures) (c.requires.closed i at)))

pub trim-requires-clause-few : goal.trim-requires-clause-few
trim-requires-clause-few c = omega (arith, c.cnf.result.now.few_clauses, c.requires.few, ap length c.as_slice.ensures)

pub returns : goal.returns
returns c =
    let cnf = c.cnf.result.now in
    refuted_made c.args.machine.now.desc c.args.instr c.args.kind cnf.clauses c.args.log c.in_ok-acts.acts
    (λ i at. ap (λ (x : Cnf). x.clauses) c.cnf.ensures ∙ c.in_ok-asked.ensures.question i at)
    (subst (λ l. IsTrimmed cnf.clauses l c.in_ok-acts.acts) c.as_slice.ensures c.in_ok-acts.ensures)
    (numbered cnf.clauses cnf.variables c.args.log cnf.are_clauses cnf.few_variables cnf.few_clauses c.requires.few)
