use Rattle.std.proofs.Common.{Some, refl, sym, ◌∙◌, ap, subst}
use Rattle.pg_cmd_certs.specs.Judged.{Judged}
use Rattle.pg_cmd_base.specs.World.{output}
use Rattle.pg_out_steps.specs.declared.handling.Monitor.{Monitor}
use Rattle.pg_prog_trace.specs.Plans.{planned_run}
use Rattle.pg_cmd_base.specs.Classes.{class_of}
use Rattle.pg_cmd_base.specs.declared.status.Status.{Status}
use Rattle.pg_prog_trace.specs.Tracing.{FormLeaves, TraceWork}
use Rattle.pg_prog_trace.proofs.TracingLemmas.{form-left, form-verdict}
use Rattle.pg_prog_trace.proofs.DumpLemmas.{dump-left, verdict-undone}
use Rattle.pg_prog_trace.proofs.vcd.dump_judged.Goals as goal

-- the verdict does not accept the machine
pub returns-then-not-is_accepted-clause-dumped : goal.returns-then-not-is_accepted-clause-dumped
returns-then-not-is_accepted-clause-dumped g c = λ done.
    let j : Judged = record { desc = c.args.plan.machine.desc; report = c.args.report } in
    absurd (verdict-undone j (output g.S.Sink c.args.out.now) (output g.S.Sink c.tell_refused.new.out) c.tell_refused.result
    (λ is. c.is_accepted.ensures.no c.if-not-is_accepted.true (c.verdict.ensures ∙ is)) c.tell_refused.ensures.told done)

-- it does
pub returns-clause-dumped : goal.returns-clause-dumped
returns-clause-dumped g c = λ done.
    let work : TraceWork = record { run = planned_run c.args.plan; report = Some c.args.report } in
    dump-left c.args.until work (Some c.monitor_of-monitor.result) (g.S.Sink.written c.args.out.now) (g.S.Sink.written c.dump_part.new.out)
    (g.H.Hardware.machinery c.dump_part.new.hw).state c.dump_part.result c.ended.result
    (sym c.verdict.ensures ∙ c.is_accepted.ensures.yes c.if-not-is_accepted.false) (ap (λ (m : Monitor). Some m) c.monitor_of-monitor.ensures) c.dump_part.ensures.put
    c.ended.ensures done

-- ---- what is left, whatever the status

pub returns-then-not-is_accepted-clause-left : goal.returns-then-not-is_accepted-clause-left
returns-then-not-is_accepted-clause-left g c =
    let hw = g.H.Hardware.machinery c.args.hw.now in
    let j : Judged = record { desc = c.args.plan.machine.desc; report = c.args.report } in
    form-verdict (record { run = planned_run c.args.plan; report = Some c.args.report }) j (output g.S.Sink c.args.out.now) (output g.S.Sink c.tell_refused.new.out) hw hw c.tell_refused.result
    (class_of c.tell_refused.result) (record { named = refl; desc = refl; other = λ is. c.is_accepted.ensures.no c.if-not-is_accepted.true (c.verdict.ensures ∙ is) }) refl
    c.tell_refused.ensures.told

pub returns-clause-left : goal.returns-clause-left
returns-clause-left g c =
    let work : TraceWork = record { run = planned_run c.args.plan; report = Some c.args.report } in
    let old = output g.S.Sink c.args.out.now in
    let new = output g.S.Sink c.dump_part.new.out in
    let before = g.H.Hardware.machinery c.args.hw.now in
    let after = g.H.Hardware.machinery c.dump_part.new.hw in
    subst (λ (s : Status). FormLeaves work old new before after s (class_of s)) (sym c.ended.ensures)
    (form-left work old new before after c.dump_part.result (sym c.verdict.ensures ∙ c.is_accepted.ensures.yes c.if-not-is_accepted.false) c.dump_part.ensures.cause)
