use Rattle.std.proofs.Common.{◌≡◌, ◌+◌, ◌-◌, ◌∙◌, ap, sym, subst, arith}
use Rattle.pg_hw.specs.Stillness.{IsStill}
use Rattle.pg_lang_meaning.specs.States.{IsState}
use Rattle.pg_lang_meaning.specs.Steps.{step, steps}
use Rattle.pg_lang_valid.proofs.StepSound.{steps-state}
use Rattle.pg_run_still.proofs.StandLemmas.{about-first, about-second, step-next}
use Rattle.pg_run_still.proofs.bare.first_about.Goals as goal

pub step_seen-seen-requires-clause-state : goal.step_seen-seen-requires-clause-state
step_seen-seen-requires-clause-state g c =
    let d = c.args.m.now.desc in
    subst (IsState d) (sym c.bare.ensures.ran.state) (steps-state d (c.args.n - 1) _ c.args.m.now.valid c.requires.state)

-- the one before is still
pub returns-then-seen-clause-first : goal.returns-then-seen-clause-first
returns-then-seen-clause-first g c =
    let d = c.args.m.now.desc in
    let s = (g.H.Hardware.machinery c.args.hw.now).state in
    about-first d c.args.n s c.requires.about (subst (IsStill d) c.bare.ensures.ran.state (c.step_seen-seen.ensures.still c.if-seen.true))

pub returns-then-seen-clause-reached : goal.returns-then-seen-clause-reached
returns-then-seen-clause-reached g c =
    c.step_seen-seen.ensures.state ∙ c.step_seen-seen.ensures.still c.if-seen.true ∙ c.bare.ensures.ran.state

-- it is not
pub returns-else-seen-clause-first : goal.returns-else-seen-clause-first
returns-else-seen-clause-first g c =
    let d = c.args.m.now.desc in
    let s = (g.H.Hardware.machinery c.args.hw.now).state in
    about-second d c.args.n s c.requires.about (λ still. c.step_seen-seen.ensures.moves c.if-seen.false (subst (IsStill d) (sym c.bare.ensures.ran.state) still))

pub returns-else-seen-clause-reached : goal.returns-else-seen-clause-reached
returns-else-seen-clause-reached g c =
    let d = c.args.m.now.desc in
    let s = (g.H.Hardware.machinery c.args.hw.now).state in
    let some = c.requires.about.some in
    let whole : (c.args.n - 1) + 1 ≡ c.args.n = omega (arith, some) in
    c.step_seen-seen.ensures.state ∙ ap (step d) c.bare.ensures.ran.state ∙ step-next d (c.args.n - 1) s ∙ ap (λ k. steps d k s) whole
