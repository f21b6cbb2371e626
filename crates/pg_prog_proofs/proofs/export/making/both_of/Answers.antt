use Rattle.std.proofs.Common.{sym, subst, ◌≡◌}
use Rattle.pg_cnf.specs.declared.clause.Cnf.{Cnf}
use Rattle.pg_prog_base.specs.Lrat.{lrat_text}
use Rattle.pg_proof.specs.Log.{IsClosedLog}
use Rattle.pg_prog_proofs.proofs.export.making.both_of.Goals as goal

pub lrat_of-requires-clause-closed : goal.lrat_of-requires-clause-closed
lrat_of-requires-clause-closed c = subst (λ (x : Cnf). IsClosedLog x.clauses c.args.acts.now) (sym c.cnf.ensures) c.requires

pub returns : goal.returns
returns c = record {
  refuted = c.requires;
  logged = subst (λ (x : Cnf). c.in_ok-log.log.items ≡ lrat_text x.clauses c.args.acts.now) c.cnf.ensures c.in_ok-log.ensures.text;
  asked = c.in_ok-clauses.ensures;
}
