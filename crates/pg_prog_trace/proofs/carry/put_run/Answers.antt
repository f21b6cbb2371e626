use Rattle.std.proofs.lemmas.Result.{on_ok_weaker, on_err_weaker}
use Rattle.pg_out_steps.proofs.TraceLemmas.{on-err}
use Rattle.pg_prog_trace.specs.Plans.{planned_run}
use Rattle.pg_prog_trace.proofs.RunTexts.{text-put, front-of-steps, front-of-counts, front-of-end}
use Rattle.pg_prog_trace.proofs.carry.put_run.Goals as goal

pub returns-clause-put : goal.returns-clause-put
returns-clause-put g c =
    let p = c.args.plan.now in
    on_ok_weaker c.put_end.result
    (λ end. text-put c.args.telling (planned_run p) c.as_slice-image.result.now c.in_ok-tally.tally (g.S.Sink.written c.args.out.now) (g.S.Sink.written c.trace_bare.new.out)
    (g.S.Sink.written c.put_counts.new.out) (g.S.Sink.written c.put_end.new.out) c.as_slice-image.ensures p.can_run.whole c.in_ok-tally.ensures.tally c.in_ok-tally.ensures.shares c.in_ok-tally.ensures.puts
    c.in_ok-put_counts.ensures.whole end)
    c.put_end.ensures.whole

-- its steps break off
pub returns-in_err-tally-clause-front : goal.returns-in_err-tally-clause-front
returns-in_err-tally-clause-front g c =
    let p = c.args.plan.now in
    on-err c.from_residual.result
    (front-of-steps c.args.telling (planned_run p) c.as_slice-image.result.now (g.S.Sink.written c.args.out.now) (g.S.Sink.written c.trace_bare.new.out) c.as_slice-image.ensures p.can_run.whole
    c.in_err-tally.ensures.front)

-- its counts do
pub returns-in_err-put_counts-clause-front : goal.returns-in_err-put_counts-clause-front
returns-in_err-put_counts-clause-front g c =
    let p = c.args.plan.now in
    on-err c.from_residual-in_err-put_counts.result
    (front-of-counts c.args.telling (planned_run p) c.as_slice-image.result.now c.in_ok-tally.tally (g.S.Sink.written c.args.out.now) (g.S.Sink.written c.trace_bare.new.out)
    (g.S.Sink.written c.put_counts.new.out) c.as_slice-image.ensures p.can_run.whole c.in_ok-tally.ensures.tally c.in_ok-tally.ensures.shares c.in_ok-tally.ensures.puts
    c.in_err-put_counts.ensures.front)

-- its end does
pub returns-clause-front : goal.returns-clause-front
returns-clause-front g c =
    let p = c.args.plan.now in
    on_err_weaker c.put_end.result
    (λ front. front-of-end c.args.telling (planned_run p) c.as_slice-image.result.now c.in_ok-tally.tally (g.S.Sink.written c.args.out.now) (g.S.Sink.written c.trace_bare.new.out)
    (g.S.Sink.written c.put_counts.new.out) (g.S.Sink.written c.put_end.new.out) c.as_slice-image.ensures p.can_run.whole c.in_ok-tally.ensures.tally c.in_ok-tally.ensures.shares c.in_ok-tally.ensures.puts
    c.in_ok-put_counts.ensures.whole front)
    c.put_end.ensures.front
