use Rattle.std.proofs.Common.{Option, None, sym, subst}
use Rattle.pg_cert.specs.declared.report.Report.{Report}
use Rattle.pg_cmd_base.specs.Classes.{class_of}
use Rattle.pg_cmd_base.specs.World.{output}
use Rattle.pg_cmd_base.specs.declared.status.Status.{Status}
use Rattle.pg_prog_trace.specs.Plans.{planned_run}
use Rattle.pg_prog_trace.specs.Tracing.{FormLeaves, TraceWork}
use Rattle.pg_prog_trace.proofs.TracingLemmas.{form-left}
use Rattle.pg_prog_trace.proofs.json.put_work.Goals as goal

pub returns-in-None : goal.returns-in-None
returns-in-None g c =
    let work : Option Report → TraceWork = λ report. record { run = planned_run c.args.work.plan; report = report } in
    let old = output g.S.Sink c.args.out.now in
    let new = output g.S.Sink c.put_part.new.out in
    let before = g.H.Hardware.machinery c.args.hw.now in
    let after = g.H.Hardware.machinery c.put_part.new.hw in
    subst (λ (report : Option Report). FormLeaves (work report) old new before after c.ended.result (class_of c.ended.result)) (sym c.in-None.is)
    (subst (λ (s : Status). FormLeaves (work None) old new before after s (class_of s)) (sym c.ended.ensures)
    (form-left (work None) old new before after c.put_part.result tt c.put_part.ensures.cause))
