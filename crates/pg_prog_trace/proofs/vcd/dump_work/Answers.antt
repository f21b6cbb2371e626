use Rattle.std.proofs.Common.{Option, None, refl, sym, subst}
use Rattle.pg_cert.specs.declared.report.Report.{Report}
use Rattle.pg_prog_trace.specs.Dumped.{IsWorkDumped}
use Rattle.pg_prog_trace.specs.Plans.{planned_run}
use Rattle.pg_cmd_base.specs.Classes.{class_of}
use Rattle.pg_cmd_base.specs.World.{output}
use Rattle.pg_cmd_base.specs.declared.status.Status.{Status}
use Rattle.pg_prog_trace.specs.Tracing.{FormLeaves, TraceWork}
use Rattle.pg_prog_trace.proofs.TracingLemmas.{form-left}
use Rattle.pg_prog_trace.proofs.DumpLemmas.{dump-left}
use Rattle.pg_prog_trace.proofs.vcd.dump_work.Goals as goal

pub returns-in-None-clause-dumped : goal.returns-in-None-clause-dumped
returns-in-None-clause-dumped g c = λ done.
    let work : Option Report → TraceWork = λ report. record { run = planned_run c.args.work.plan; report = report } in
    let was = g.S.Sink.written c.args.out.now in
    let now = g.S.Sink.written c.dump_part.new.out in
    let state = (g.H.Hardware.machinery c.dump_part.new.hw).state in
    subst (λ (report : Option Report). IsWorkDumped c.args.until (work report) was now state) (sym c.in-None.is)
    (dump-left c.args.until (work None) None was now state c.dump_part.result c.ended.result tt refl c.dump_part.ensures.put c.ended.ensures done)

pub returns-in-None-clause-left : goal.returns-in-None-clause-left
returns-in-None-clause-left g c =
    let work : Option Report → TraceWork = λ report. record { run = planned_run c.args.work.plan; report = report } in
    let old = output g.S.Sink c.args.out.now in
    let new = output g.S.Sink c.dump_part.new.out in
    let before = g.H.Hardware.machinery c.args.hw.now in
    let after = g.H.Hardware.machinery c.dump_part.new.hw in
    subst (λ (report : Option Report). FormLeaves (work report) old new before after c.ended.result (class_of c.ended.result)) (sym c.in-None.is)
    (subst (λ (s : Status). FormLeaves (work None) old new before after s (class_of s)) (sym c.ended.ensures)
    (form-left (work None) old new before after c.dump_part.result tt c.dump_part.ensures.cause))
