use Rattle.std.proofs.Common.{Option, refl, sym, subst}
use Rattle.std.specs.Prelude.{IfOk}
use Rattle.pg_lang_meaning.specs.Steps.{power_on}
use Rattle.pg_prog_trace.specs.Plans.{planned_run}
use Rattle.pg_prog_trace.specs.Until.{EndsAt}
use Rattle.pg_prog_trace.specs.declared.request.Until.{Until}
use Rattle.pg_prog_trace.proofs.until.steps_of.Goals as goal

pub returns-in-None-clause-ends : goal.returns-in-None-clause-ends
returns-in-None-clause-ends g c =
    let r = planned_run c.args.plan.now in
    subst (λ (u : Option Until). EndsAt r.desc u r.steps (power_on r.image r.grant) r.steps) (sym c.in-None.is) refl

pub returns-in-Some-clause-ends : goal.returns-in-Some-clause-ends
returns-in-Some-clause-ends g c =
    let r = planned_run c.args.plan.now in
    subst (λ (u : Option Until). IfOk c.steps_until.result (EndsAt r.desc u r.steps (power_on r.image r.grant))) (sym c.in-Some.is) c.steps_until.ensures.until
