use Rattle.std.proofs.Common.{refl}
use Rattle.pg_prog_trace.specs.Tracing.{trace_work}
use Rattle.pg_prog_trace.proofs.TracingLemmas.{form-stopped, form-works}
use Rattle.pg_prog_trace.proofs.Undone.{undone}
use Rattle.pg_prog_trace.proofs.vcd.carry_vcd.Goals as goal

pub returns-in-Err-clause-dumped : goal.returns-in-Err-clause-dumped
returns-in-Err-clause-dumped g c = λ done. absurd (undone c.in-Err.stop _ _ c.stopped.result c.stopped.ensures.stops done)

pub returns-in-Ok-clause-dumped : goal.returns-in-Ok-clause-dumped
returns-in-Ok-clause-dumped g c = λ done. record { work = trace_work c.in-Ok.work; is_due = c.in-Ok.ensures.comes; dumped = c.dump_work.ensures.dumped done }

pub returns-in-Err-clause-form : goal.returns-in-Err-clause-form
returns-in-Err-clause-form g c =
    let reads = c.load_work.ensures.reads in
    form-stopped c.args.words.now trace_work _ _ c.in-Err.stop c.stopped.result c.in-Err.ensures.comes c.stopped.ensures.stops
    (record { files = reads.same_files; saves = reads.same_saves; hw = refl })

pub returns-in-Ok-clause-form : goal.returns-in-Ok-clause-form
returns-in-Ok-clause-form g c =
    let reads = c.load_work.ensures.reads in
    form-works c.args.words.now _ _ (trace_work c.in-Ok.work) c.dump_work.result c.in-Ok.ensures.comes c.dump_work.ensures.left reads.same_files reads.same_saves
