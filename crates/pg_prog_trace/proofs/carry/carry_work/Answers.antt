use Rattle.std.proofs.Common.{Option, None, sym, subst}
use Rattle.std.specs.Prelude.{IfErr, OnOk}
use Rattle.pg_cert.specs.declared.report.Report.{Report}
use Rattle.pg_cmd_base.specs.Classes.{class_of}
use Rattle.pg_cmd_base.specs.World.{output}
use Rattle.pg_cmd_base.specs.declared.status.Status.{Status}
use Rattle.pg_out_steps.specs.declared.shows.Telling.{Telling}
use Rattle.pg_prog_trace.specs.Plans.{planned_run}
use Rattle.pg_prog_trace.specs.Tracing.{TraceWork, BreaksPart, PutsPart, WorkLeaves}
use Rattle.pg_prog_trace.proofs.TracingLemmas.{run-left}
use Rattle.pg_prog_trace.proofs.carry.carry_work.Goals as goal

pub returns-in-None-clause-left : goal.returns-in-None-clause-left
returns-in-None-clause-left g c =
    let shows = c.args.words.now.shows in
    let until = c.args.words.now.until in
    let run = planned_run c.args.work.plan in
    let work : Option Report → TraceWork = λ report. record { run = run; report = report } in
    let old = output g.S.Sink c.args.out.now in
    let new = output g.S.Sink c.put_part.new.out in
    let before = g.H.Hardware.machinery c.args.hw.now in
    let after = g.H.Hardware.machinery c.put_part.new.hw in
    let put = subst (λ (t : Telling). OnOk c.put_part.result (PutsPart t until run old.written new.written after.state)) c.told_of-telling.ensures c.put_part.ensures.put in
    let front = subst (λ (t : Telling). IfErr c.put_part.result (BreaksPart t until run old new)) c.told_of-telling.ensures c.put_part.ensures.front in
    subst (λ (report : Option Report). WorkLeaves shows until (work report) old new before after c.ended.result (class_of c.ended.result)) (sym c.in-None.is)
    (subst (λ (s : Status). WorkLeaves shows until (work None) old new before after s (class_of s)) (sym c.ended.ensures)
    (run-left shows until (work None) old new before after c.put_part.result tt put front c.put_part.ensures.cause))
