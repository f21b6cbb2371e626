use Rattle.std.proofs.Common.{refl}
use Rattle.pg_prog_trace.specs.Tracing.{trace_work}
use Rattle.pg_prog_trace.proofs.TracingLemmas.{form-stopped, form-works}
use Rattle.pg_prog_trace.proofs.json.carry_json.Goals as goal

pub returns-in-Err-clause-form : goal.returns-in-Err-clause-form
returns-in-Err-clause-form g c =
    let reads = c.load_work.ensures.reads in
    form-stopped c.args.words.now trace_work _ _ c.in-Err.stop c.stopped.result c.in-Err.ensures.comes c.stopped.ensures.stops
    (record { files = reads.same_files; saves = reads.same_saves; hw = refl })

pub returns-in-Ok-clause-form : goal.returns-in-Ok-clause-form
returns-in-Ok-clause-form g c =
    let reads = c.load_work.ensures.reads in
    form-works c.args.words.now _ _ (trace_work c.in-Ok.work) c.put_work.result c.in-Ok.ensures.comes c.put_work.ensures reads.same_files reads.same_saves
