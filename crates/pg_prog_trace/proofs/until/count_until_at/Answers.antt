use Rattle.std.proofs.Common.{◌≡◌, refl, sym, ◌∙◌, ap, subst, arith}
use Rattle.pg_word.specs.declared.psw.Psw.{Psw}
use Rattle.pg_lang_meaning.specs.States.{State, IsState}
use Rattle.pg_lang_meaning.specs.Steps.{step, steps}
use Rattle.pg_lang_valid.proofs.StepSound.{steps-state}
use Rattle.pg_prog_trace.specs.declared.request.Until.TheVariants.{At}
use Rattle.pg_prog_trace.proofs.UntilLemmas.{none-first, none-next, steps-none, steps-next, until-here, until-end}
use Rattle.pg_prog_trace.proofs.until.count_until_at.Goals as goal

pub loop-done-init : goal.loop-done-init
loop-done-init g c =
    let d = c.args.m.now.desc in
    let s = (g.H.Hardware.machinery c.args.hw.now).state in
    record { state = steps-none d s; none = none-first d (At c.args.p) s; fixed = refl }

pub step-requires-clause-state : goal.step-requires-clause-state
step-requires-clause-state g c =
    subst (λ s. IsState c.args.m.now.desc s) (sym c.loop-done.invariant.state) (steps-state c.args.m.now.desc _ _ c.args.m.now.valid c.requires.state)

-- P is there
pub returns-then-psw-p-clause-until : goal.returns-then-psw-p-clause-until
returns-then-psw-p-clause-until g c =
    let d = c.args.m.now.desc in
    let s = (g.H.Hardware.machinery c.args.hw.now).state in
    let before = c.loop-done.invariant in
    let there : (steps d c.loop-done.done s).psw.p ≡ c.args.p =
    ap (λ (t : State). t.psw.p) (sym before.state) ∙ ap (λ (x : Psw). x.p) (sym c.psw.ensures) ∙ c.if-psw-p.true in
    until-here d (At c.args.p) c.args.most c.loop-done.done s (omega (arith, c.loop-done-test.true)) before.none there

-- it is not
pub loop-done-preserved : goal.loop-done-preserved
loop-done-preserved g c =
    let d = c.args.m.now.desc in
    let s = (g.H.Hardware.machinery c.args.hw.now).state in
    let n = c.loop-done.done in
    let before = c.loop-done.invariant in
    record {
      state = c.step.ensures.state ∙ ap (step d) before.state ∙ steps-next d n s;
      none = none-next d (At c.args.p) s n before.none
          (λ there. c.if-psw-p.false (ap (λ (x : Psw). x.p) c.psw.ensures ∙ ap (λ (t : State). t.psw.p) before.state ∙ there));
      fixed = c.step.ensures.fixed ∙ before.fixed;
    }

pub returns-clause-until : goal.returns-clause-until
returns-clause-until g c =
    until-end c.args.m.now.desc (At c.args.p) c.args.most c.loop-done.done (g.H.Hardware.machinery c.args.hw.now).state
    (omega (arith, c.loop-done-test.false, c.loop-done.auto.done-end)) c.loop-done.invariant.none
