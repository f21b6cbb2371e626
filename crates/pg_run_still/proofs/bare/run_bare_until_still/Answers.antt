use Rattle.std.proofs.Common.{length, ◌∙◌, ap, sym, subst}
use Rattle.pg_hw.specs.Machinery.{Machinery}
use Rattle.pg_lang_meaning.specs.States.{IsState}
use Rattle.pg_lang_meaning.specs.Steps.{power_on}
use Rattle.pg_run_still.proofs.StandLemmas.{about-again, about-long, blank-long, stand-state, stood-about, stood-first}
use Rattle.pg_run_still.proofs.bare.run_bare_until_still.Goals as goal

pub power_on-requires-clause-size : goal.power_on-requires-clause-size
power_on-requires-clause-size g c =
    c.requires.can_stand.whole ∙ sym (blank-long c.args.grant) ∙ ap (λ (m : Machinery). length m.state.cells) (sym c.in-Ok.ensures.installed)

pub run_until-requires-clause-state : goal.run_until-requires-clause-state
run_until-requires-clause-state g c =
    let d = c.args.machine.now.desc in
    let on = ap (λ (m : Machinery). m.state) c.power_on.ensures.switched_on ∙ ap (power_on c.args.image.now) c.requires.can_stand.whole in
    subst (IsState d) (sym on) (stand-state d c.args.grant c.args.image.now c.args.machine.now.valid c.requires.can_stand)

pub returns-in-First-clause-stood : goal.returns-in-First-clause-stood
returns-in-First-clause-stood g c =
    let on = ap (λ (m : Machinery). m.state) c.power_on.ensures.switched_on ∙ ap (power_on c.args.image.now) c.requires.can_stand.whole in
    stood-first c.args.machine.now.desc c.args.grant c.args.most c.args.image.now c.in-First.still _ _ c.run_until.result c.run_until.ensures.met c.in-First.is on

-- ---- once more

pub power_on-requires-in-About-clause-size : goal.power_on-requires-in-About-clause-size
power_on-requires-in-About-clause-size g c =
    let on = ap (λ (m : Machinery). m.state) c.power_on.ensures.switched_on ∙ ap (power_on c.args.image.now) c.requires.can_stand.whole in
    about-long c.args.machine.now.desc c.args.grant c.args.most c.in-About.n c.args.image.now _ _ c.run_until.result c.args.machine.now.valid c.requires.can_stand c.run_until.ensures.met c.in-About.is on

pub first_about-requires-clause-state : goal.first_about-requires-clause-state
first_about-requires-clause-state g c =
    let d = c.args.machine.now.desc in
    let anew = ap (λ (m : Machinery). m.state) c.power_on-in-About.ensures.switched_on ∙ ap (power_on c.args.image.now) c.requires.can_stand.whole in
    subst (IsState d) (sym anew) (stand-state d c.args.grant c.args.image.now c.args.machine.now.valid c.requires.can_stand)

pub first_about-requires-clause-about : goal.first_about-requires-clause-about
first_about-requires-clause-about g c =
    let on = ap (λ (m : Machinery). m.state) c.power_on.ensures.switched_on ∙ ap (power_on c.args.image.now) c.requires.can_stand.whole in
    let anew = ap (λ (m : Machinery). m.state) c.power_on-in-About.ensures.switched_on ∙ ap (power_on c.args.image.now) c.requires.can_stand.whole in
    about-again c.args.machine.now.desc c.args.grant c.args.most c.in-About.n c.args.image.now _ _ _ c.run_until.result c.run_until.ensures.met c.in-About.is on anew

pub returns-in-About-clause-stood : goal.returns-in-About-clause-stood
returns-in-About-clause-stood g c =
    let anew = ap (λ (m : Machinery). m.state) c.power_on-in-About.ensures.switched_on ∙ ap (power_on c.args.image.now) c.requires.can_stand.whole in
    stood-about c.args.machine.now.desc c.args.grant c.args.most c.in-About.n c.first_about.result c.args.image.now _ _ _ _ c.run_until.result c.run_until.ensures.met c.in-About.is anew
    c.first_about.ensures.first c.first_about.ensures.reached
