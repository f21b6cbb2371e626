use Rattle.std.proofs.Common.{Some, refl, sym, ◌∙◌, subst}
use Rattle.pg_cmd_certs.specs.Judged.{Judged}
use Rattle.pg_cmd_base.specs.Classes.{class_of}
use Rattle.pg_cmd_base.specs.World.{output}
use Rattle.pg_cmd_base.specs.declared.status.Status.{Status}
use Rattle.pg_prog_trace.specs.Plans.{planned_run}
use Rattle.pg_prog_trace.specs.Tracing.{FormLeaves, TraceWork}
use Rattle.pg_prog_trace.proofs.TracingLemmas.{form-left, form-verdict}
use Rattle.pg_prog_trace.proofs.json.carry_accepted.Goals as goal

-- the verdict does not accept the machine
pub returns-then-not-is_accepted : goal.returns-then-not-is_accepted
returns-then-not-is_accepted g c =
    let hw = g.H.Hardware.machinery c.args.hw.now in
    let j : Judged = record { desc = c.args.plan.machine.desc; report = c.args.report } in
    form-verdict (record { run = planned_run c.args.plan; report = Some c.args.report }) j (output g.S.Sink c.args.out.now) (output g.S.Sink c.tell_refused.new.out) hw hw c.tell_refused.result
    (class_of c.tell_refused.result) (record { named = refl; desc = refl; other = λ is. c.is_accepted.ensures.no c.if-not-is_accepted.true (c.verdict.ensures ∙ is) }) refl
    c.tell_refused.ensures.told

-- it does
pub returns : goal.returns
returns g c =
    let work : TraceWork = record { run = planned_run c.args.plan; report = Some c.args.report } in
    let old = output g.S.Sink c.args.out.now in
    let new = output g.S.Sink c.put_part.new.out in
    let before = g.H.Hardware.machinery c.args.hw.now in
    let after = g.H.Hardware.machinery c.put_part.new.hw in
    subst (λ (s : Status). FormLeaves work old new before after s (class_of s)) (sym c.ended.ensures)
    (form-left work old new before after c.put_part.result (sym c.verdict.ensures ∙ c.is_accepted.ensures.yes c.if-not-is_accepted.false) c.put_part.ensures.cause)
