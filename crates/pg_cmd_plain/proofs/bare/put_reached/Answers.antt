use Rattle.std.proofs.Common.{◌<◌, ◌^◌, length, All, sym, ap, subst, arith}
use Rattle.pg_edge.specs.Sink.{Puts}
use Rattle.pg_report.specs.Spans.{span}
use Rattle.pg_cmd_plain.specs.Bare.{reached}
use Rattle.pg_cmd_plain.specs.Plans.{bare_run}
use Rattle.pg_cmd_plain.proofs.BareLemmas.{reached-state, reached-length, span-fits, text-of}
use Rattle.pg_cmd_plain.proofs.bare.put_reached.Goals as goal

pub put_state-requires-clause-within : goal.put_state-requires-clause-within
put_state-requires-clause-within g c =
    let p = c.args.plan.now in
    let same = ap (λ s. length s.cells) c.requires in
    omega (arith, same, reached-length (bare_run p) p.machine.valid p.can_run)

pub put_state-requires-clause-fit : goal.put_state-requires-clause-fit
put_state-requires-clause-fit g c =
    let p = c.args.plan.now in
    let sound = reached-state (bare_run p) p.machine.valid p.can_run in
    subst (λ s. All (λ word. word < 2 ^ c.shape.result.now.w) (span 0 p.grant s.cells)) (sym c.requires)
    (span-fits p.machine.desc.word c.shape.result.now.w p.grant (reached (bare_run p)).cells (ap (λ s. s.w) c.shape.ensures.numbers) sound.words)

pub returns : goal.returns
returns g c =
    let p = c.args.plan.now in
    subst (λ t. Puts (g.S.Sink.written c.args.out.now) (g.S.Sink.written c.put_state.new.out) (g.S.Sink.faults c.args.out.now) (g.S.Sink.faults c.put_state.new.out) t c.put_state.result)
    (text-of (bare_run p) (g.H.Hardware.machinery c.args.hw.now).state c.shape.result.now c.psw-psw.result c.requires c.shape.ensures.numbers c.psw-psw.ensures
    (reached-length (bare_run p) p.machine.valid p.can_run))
    c.put_state.ensures
