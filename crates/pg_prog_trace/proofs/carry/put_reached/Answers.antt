use Rattle.std.proofs.Common.{◌<◌, ◌^◌, List, length, All, Ok, Err, sym, ap, subst, arith}
use Rattle.std.proofs.lemmas.Result.{err_from_is_err_and}
use Rattle.std.specs.Prelude.{ℕ}
use Rattle.pg_report.specs.Spans.{span}
use Rattle.pg_cmd_plain.specs.Bare.{reached}
use Rattle.pg_cmd_plain.proofs.BareLemmas.{reached-state, reached-length, span-fits, text-of}
use Rattle.pg_out_steps.specs.Putting.{PutsUpTo}
use Rattle.pg_out_steps.specs.declared.tracing.TraceFault.TheVariants.{Output}
use Rattle.pg_prog_trace.specs.Plans.{planned_run}
use Rattle.pg_prog_trace.proofs.RunTexts.{put-whole, put-broken}
use Rattle.pg_prog_trace.proofs.carry.put_reached.Goals as goal

pub put_state-requires-clause-within : goal.put_state-requires-clause-within
put_state-requires-clause-within g c =
    let p = c.args.plan.now in
    let same = ap (λ s. length s.cells) c.requires in
    omega (arith, same, reached-length (planned_run p) p.machine.valid p.can_run)

pub put_state-requires-clause-fit : goal.put_state-requires-clause-fit
put_state-requires-clause-fit g c =
    let p = c.args.plan.now in
    let sound = reached-state (planned_run p) p.machine.valid p.can_run in
    subst (λ s. All (λ word. word < 2 ^ c.shape.result.now.w) (span 0 p.grant s.cells)) (sym c.requires)
    (span-fits p.machine.desc.word c.shape.result.now.w p.grant (reached (planned_run p)).cells (ap (λ s. s.w) c.shape.ensures.numbers) sound.words)

pub returns : goal.returns
returns g c =
    let p = c.args.plan.now in
    subst (λ (t : List ℕ). PutsUpTo {T = Unit {0}} (g.S.Sink.written c.args.out.now) (g.S.Sink.written c.put_state.new.out) (g.S.Sink.faults c.args.out.now) (g.S.Sink.faults c.put_state.new.out) t (Ok tt))
    (text-of (planned_run p) (g.H.Hardware.machinery c.args.hw.now).state c.shape.result.now c.psw-psw.result c.requires c.shape.ensures.numbers c.psw-psw.ensures
    (reached-length (planned_run p) p.machine.valid p.can_run))
    (put-whole _ _ _ _ _ _ c.in_ok-put_state.ensures tt)

pub returns-in_err-put_state : goal.returns-in_err-put_state
returns-in_err-put_state g c =
    let p = c.args.plan.now in
    let fault = err_from_is_err_and c.from_residual.result c.from_residual.ensures.1 in
    rw (fault.1, fault.2)
    (subst (λ (t : List ℕ). PutsUpTo {T = Unit {0}} (g.S.Sink.written c.args.out.now) (g.S.Sink.written c.put_state.new.out) (g.S.Sink.faults c.args.out.now) (g.S.Sink.faults c.put_state.new.out) t (Err Output))
    (text-of (planned_run p) (g.H.Hardware.machinery c.args.hw.now).state c.shape.result.now c.psw-psw.result c.requires c.shape.ensures.numbers c.psw-psw.ensures
    (reached-length (planned_run p) p.machine.valid p.can_run))
    (put-broken _ _ _ _ _ _ c.in_err-put_state.ensures))
