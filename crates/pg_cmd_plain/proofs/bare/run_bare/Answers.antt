use Rattle.std.proofs.Common.{◌≡◌, length, sym, ◌∙◌, ap, subst}
use Rattle.pg_hw.specs.Machinery.{Machinery}
use Rattle.pg_lang_meaning.specs.States.{IsState}
use Rattle.pg_cmd_plain.specs.Plans.{bare_run}
use Rattle.pg_cmd_plain.proofs.BareLemmas.{blank-length, first-state, switched_on, switched, RanBare-of}
use Rattle.pg_cmd_plain.proofs.bare.run_bare.Goals as goal

pub power_on-requires-clause-size : goal.power_on-requires-clause-size
power_on-requires-clause-size g c =
    let p = c.args.plan.now in
    ap length c.as_slice.ensures ∙ p.can_run.whole ∙ sym (blank-length p.grant) ∙ ap (λ (m : Machinery). length m.state.cells) (sym c.in-Ok.ensures.installed)

pub bare-requires-clause-state : goal.bare-requires-clause-state
bare-requires-clause-state g c =
    let p = c.args.plan.now in
    let on : g.H.Hardware.machinery c.power_on.new.hw ≡ switched_on (bare_run p) (g.H.Hardware.machinery c.args.hw.now) =
    switched (bare_run p) (g.H.Hardware.machinery c.args.hw.now) (g.H.Hardware.machinery c.install.new.self) (g.H.Hardware.machinery c.power_on.new.hw) c.as_slice.result.now c.in-Ok.ensures.installed c.as_slice.ensures p.can_run.whole c.power_on.ensures.switched_on in
    subst (λ (m : Machinery). IsState p.machine.desc m.state) (sym on) (first-state p.machine.desc p.grant p.steps p.image p.machine.valid p.can_run)

pub returns-clause-ran : goal.returns-clause-ran
returns-clause-ran g c =
    let p = c.args.plan.now in
    let on : g.H.Hardware.machinery c.power_on.new.hw ≡ switched_on (bare_run p) (g.H.Hardware.machinery c.args.hw.now) =
    switched (bare_run p) (g.H.Hardware.machinery c.args.hw.now) (g.H.Hardware.machinery c.install.new.self) (g.H.Hardware.machinery c.power_on.new.hw) c.as_slice.result.now c.in-Ok.ensures.installed c.as_slice.ensures p.can_run.whole c.power_on.ensures.switched_on in
    RanBare-of (bare_run p) (g.H.Hardware.machinery c.args.hw.now) (g.H.Hardware.machinery c.power_on.new.hw) (g.H.Hardware.machinery c.bare.new.hw) on c.bare.ensures.ran c.requires.able.counts p.can_run.counted p.can_run.small
