use Rattle.std.proofs.Common.{refl}
use Rattle.pg_prog_trace.specs.Tracing.{trace_work}
use Rattle.pg_prog_trace.proofs.Undone.{undone}
use Rattle.pg_prog_trace.proofs.TracingLemmas.{traces-stopped, traces-works, work-shown}
use Rattle.pg_prog_trace.proofs.carry.carry.Goals as goal

pub returns-in-Err-clause-done : goal.returns-in-Err-clause-done
returns-in-Err-clause-done g c = λ done. absurd (undone c.in-Err.stop _ _ c.stopped.result c.stopped.ensures.stops done)

pub returns-in-Err-clause-traces : goal.returns-in-Err-clause-traces
returns-in-Err-clause-traces g c =
    let reads = c.load_work.ensures.reads in
    traces-stopped c.args.words.now trace_work _ _ c.in-Err.stop c.stopped.result c.in-Err.ensures.comes c.stopped.ensures.stops
    (record { files = reads.same_files; saves = reads.same_saves; hw = refl })

pub returns-in-Ok-clause-done : goal.returns-in-Ok-clause-done
returns-in-Ok-clause-done g c = λ done.
    work-shown c.args.words.now (g.F.Shelf.files c.args.shelf.now) (trace_work c.in-Ok.work) _ _ _ _ c.carry_work.result c.in-Ok.work.plan.can_run c.in-Ok.ensures.room c.in-Ok.ensures.comes
    c.carry_work.ensures.left done

pub returns-in-Ok-clause-traces : goal.returns-in-Ok-clause-traces
returns-in-Ok-clause-traces g c =
    let reads = c.load_work.ensures.reads in
    traces-works c.args.words.now _ _ (trace_work c.in-Ok.work) c.carry_work.result c.in-Ok.ensures.comes c.carry_work.ensures.left reads.same_files reads.same_saves
