use Rattle.std.proofs.Common.{refl, sym, ◌∙◌, ap, subst, arith}
use Rattle.pg_hw.specs.Stillness.{IsStill}
use Rattle.pg_lang_meaning.specs.States.{IsState}
use Rattle.pg_lang_meaning.specs.Steps.{step}
use Rattle.pg_lang_valid.proofs.StepSound.{steps-state}
use Rattle.pg_prog_trace.specs.declared.request.Until.TheVariants.{Still}
use Rattle.pg_prog_trace.proofs.UntilLemmas.{none-first, none-next, steps-none, steps-next, until-here, until-end}
use Rattle.pg_prog_trace.proofs.until.count_until_still.Goals as goal

pub loop-done-init : goal.loop-done-init
loop-done-init g c =
    let d = c.args.m.now.desc in
    let s = (g.H.Hardware.machinery c.args.hw.now).state in
    record { state = steps-none d s; none = none-first d Still s; fixed = refl }

pub step_seen-seen-requires-clause-state : goal.step_seen-seen-requires-clause-state
step_seen-seen-requires-clause-state g c =
    subst (IsState c.args.m.now.desc) (sym c.loop-done.invariant.state) (steps-state c.args.m.now.desc _ _ c.args.m.now.valid c.requires.state)

-- it is still
pub returns-then-seen-clause-until : goal.returns-then-seen-clause-until
returns-then-seen-clause-until g c =
    let d = c.args.m.now.desc in
    let s = (g.H.Hardware.machinery c.args.hw.now).state in
    let before = c.loop-done.invariant in
    until-here d Still c.args.most c.loop-done.done s (omega (arith, c.loop-done-test.true)) before.none
    (subst (IsStill d) before.state (c.step_seen-seen.ensures.still c.if-seen.true))

-- it is not
pub loop-done-preserved : goal.loop-done-preserved
loop-done-preserved g c =
    let d = c.args.m.now.desc in
    let s = (g.H.Hardware.machinery c.args.hw.now).state in
    let n = c.loop-done.done in
    let before = c.loop-done.invariant in
    record {
      state = c.step_seen-seen.ensures.state ∙ ap (step d) before.state ∙ steps-next d n s;
      none = none-next d Still s n before.none (λ still. c.step_seen-seen.ensures.moves c.if-seen.false (subst (IsStill d) (sym before.state) still));
      fixed = c.step_seen-seen.ensures.fixed ∙ before.fixed;
    }

pub returns-clause-until : goal.returns-clause-until
returns-clause-until g c =
    until-end c.args.m.now.desc Still c.args.most c.loop-done.done (g.H.Hardware.machinery c.args.hw.now).state
    (omega (arith, c.loop-done-test.false, c.loop-done.auto.done-end)) c.loop-done.invariant.none
