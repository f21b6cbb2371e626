use Rattle.std.proofs.Common.{◌≡◌, length, sym, ◌∙◌, ap, subst}
use Rattle.pg_hw.specs.Machinery.{Machinery}
use Rattle.pg_lang_meaning.specs.States.{IsState}
use Rattle.pg_cmd_plain.proofs.BareLemmas.{blank-length, first-state, switched_on, switched}
use Rattle.pg_prog_trace.specs.Plans.{planned_run}
use Rattle.pg_prog_trace.specs.Until.{IsUntil}
use Rattle.pg_prog_trace.proofs.until.steps_until.Goals as goal

pub power_on-requires-clause-size : goal.power_on-requires-clause-size
power_on-requires-clause-size g c =
    let p = c.args.plan.now in
    ap length c.as_slice.ensures ∙ p.can_run.whole ∙ sym (blank-length p.grant) ∙ ap (λ (m : Machinery). length m.state.cells) (sym c.in_ok-install.ensures.installed)

pub count_until-requires-clause-state : goal.count_until-requires-clause-state
count_until-requires-clause-state g c =
    let p = c.args.plan.now in
    let on : g.H.Hardware.machinery c.power_on.new.hw ≡ switched_on (planned_run p) (g.H.Hardware.machinery c.args.hw.now) =
    switched (planned_run p) (g.H.Hardware.machinery c.args.hw.now) (g.H.Hardware.machinery c.install.new.self) (g.H.Hardware.machinery c.power_on.new.hw) c.as_slice.result.now c.in_ok-install.ensures.installed c.as_slice.ensures p.can_run.whole c.power_on.ensures.switched_on in
    subst (λ (m : Machinery). IsState p.machine.desc m.state) (sym on) (first-state p.machine.desc p.grant p.steps p.image p.machine.valid p.can_run)

pub returns-clause-until : goal.returns-clause-until
returns-clause-until g c =
    let p = c.args.plan.now in
    let on : g.H.Hardware.machinery c.power_on.new.hw ≡ switched_on (planned_run p) (g.H.Hardware.machinery c.args.hw.now) =
    switched (planned_run p) (g.H.Hardware.machinery c.args.hw.now) (g.H.Hardware.machinery c.install.new.self) (g.H.Hardware.machinery c.power_on.new.hw) c.as_slice.result.now c.in_ok-install.ensures.installed c.as_slice.ensures p.can_run.whole c.power_on.ensures.switched_on in
    subst (λ (m : Machinery). IsUntil p.machine.desc c.args.until p.steps m.state c.count_until.result) on c.count_until.ensures.until
