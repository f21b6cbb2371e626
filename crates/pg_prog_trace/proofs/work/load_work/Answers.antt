use Rattle.std.proofs.Common.{Option, Ok, Err, subst}
use Rattle.pg_cert.specs.declared.report.Report.{Report}
use Rattle.pg_edge.specs.Shelf.{Files}
use Rattle.pg_cmd_base.specs.Answering.{Comes}
use Rattle.pg_cmd_base.specs.Steps.{Came}
use Rattle.pg_prog_base.specs.Either.{EitherDue}
use Rattle.pg_prog_base.proofs.CertLemmas.{either-comes}
use Rattle.pg_prog_trace.specs.Plans.{planned_run}
use Rattle.pg_prog_trace.specs.Tracing.{trace_work}
use Rattle.pg_prog_trace.proofs.TracingLemmas.{trace-stopped, trace-refused, trace-bare, trace-judged}
use Rattle.pg_prog_trace.proofs.work.load_work.Goals as goal

-- the run stops it
pub returns-in-Err-clause-comes : goal.returns-in-Err-clause-comes
returns-in-Err-clause-comes g c =
    let w = c.args.words.now in
    trace-stopped planned_run trace_work w.cert w.bare (g.F.Shelf.files c.args.shelf.now) c.kept_beside.result _ _ c.in-Err.stop c.kept_beside.ensures c.in-Err.ensures.comes

-- no certificate is named
pub returns-in-None-clause-comes : goal.returns-in-None-clause-comes
returns-in-None-clause-comes g c =
    let w = c.args.words.now in
    trace-bare w.cert w.bare (g.F.Shelf.files c.args.shelf.now) (planned_run c.in-Ok.plan) c.kept_beside.result c.kept_beside.ensures c.in-None.is c.in-Ok.ensures.comes

-- the certificate stops it
pub returns-in-Err-load_either-clause-comes : goal.returns-in-Err-load_either-clause-comes
returns-in-Err-load_either-clause-comes g c =
    let w = c.args.words.now in
    let run = planned_run c.in-Ok.plan in
    let mid = g.F.Shelf.reads c.prepare.new.shelf in
    let after = g.F.Shelf.reads c.load_either.new.shelf in
    let either = either-comes run.desc (g.F.Shelf.files c.prepare.new.shelf) c.in-Some.cert mid after (Err c.in-Err-load_either.stop) c.in-Err-load_either.ensures.comes in
    trace-refused trace_work w.cert c.in-Some.cert w.bare (g.F.Shelf.files c.args.shelf.now) run c.kept_beside.result _ mid after c.in-Err-load_either.stop c.kept_beside.ensures c.in-Some.is
    c.in-Ok.ensures.comes c.prepare.ensures.reads.later
    (subst (λ (files : Option Files). Comes {T = Report} (λ report. report) (EitherDue run.desc files c.in-Some.cert) mid after (Err c.in-Err-load_either.stop)) c.prepare.ensures.reads.same_files either)

-- nothing stops it
pub returns-in-Ok-load_either-clause-comes : goal.returns-in-Ok-load_either-clause-comes
returns-in-Ok-load_either-clause-comes g c =
    let w = c.args.words.now in
    let run = planned_run c.in-Ok.plan in
    let report = c.in-Ok-load_either.report in
    let mid = g.F.Shelf.reads c.prepare.new.shelf in
    let after = g.F.Shelf.reads c.load_either.new.shelf in
    let due : EitherDue run.desc (g.F.Shelf.files c.prepare.new.shelf) c.in-Some.cert (Came report) =
    either-comes run.desc (g.F.Shelf.files c.prepare.new.shelf) c.in-Some.cert mid after (Ok report) c.in-Ok-load_either.ensures.comes in
    trace-judged w.cert c.in-Some.cert w.bare (g.F.Shelf.files c.args.shelf.now) run report c.kept_beside.result c.kept_beside.ensures c.in-Some.is c.in-Ok.ensures.comes
    (subst (λ (files : Option Files). EitherDue run.desc files c.in-Some.cert (Came report)) c.prepare.ensures.reads.same_files due)
