use Rattle.std.proofs.Common.{◌≡◌, ◌<◌, refl, sym, ◌∙◌, subst, arith}
use Rattle.std.specs.Prelude.{IfSome}
use Rattle.pg_lang_meaning.specs.States.{IsState}
use Rattle.pg_lang_meaning.specs.Steps.{steps}
use Rattle.pg_lang_valid.proofs.StepSound.{steps-state}
use Rattle.pg_hw.specs.Running.{Ran}
use Rattle.pg_hw.proofs.RunLemmas.{Ran-none, Ran-then}
use Rattle.pg_out_steps.specs.Counting.{IsTally}
use Rattle.pg_out_steps.specs.Tells.{Tells}
use Rattle.pg_out_steps.proofs.TallyLemmas.{tally-next}
use Rattle.pg_out_json.proofs.turns.put_turns.Goals as goal

pub loop-done-init : goal.loop-done-init
loop-done-init g c = record {
  tally = c.in_ok-tally.ensures.none (g.H.Hardware.machinery c.args.hw.now).state;
  balanced = c.in_ok-tally.ensures.balanced;
  ran = Ran-none c.args.m.now.desc _;
  later = omega (arith, c.in_ok-put_piece.ensures.later);
  fixed = refl;
}

pub next_asked-asked-requires : goal.next_asked-asked-requires
next_asked-asked-requires g c = record {
  state = subst (λ s. IsState c.args.m.now.desc s) (sym c.loop-done.invariant.ran.state)
      (steps-state c.args.m.now.desc _ _ c.args.m.now.valid c.requires.state);
}

pub step-stepped-requires-clause-state : goal.step-stepped-requires-clause-state
step-stepped-requires-clause-state g c =
    subst (λ s. IsState c.args.m.now.desc s) (sym c.loop-done.invariant.ran.state)
    (steps-state c.args.m.now.desc _ _ c.args.m.now.valid c.requires.state)

pub count-requires-clause-few : goal.count-requires-clause-few
count-requires-clause-few g c = omega (arith, c.loop-done.invariant.tally.steps, c.loop-done-test.true, c.requires.few)

pub count-requires-clause-within : goal.count-requires-clause-within
count-requires-clause-within g c =
    subst (λ n. IfSome c.step-stepped.result.instr (λ k. k < n)) (sym c.loop-done.invariant.tally.size) c.step-stepped.ensures.fits.instr

pub loop-done-preserved : goal.loop-done-preserved
loop-done-preserved g c =
    let d = c.args.m.now.desc in
    let s = (g.H.Hardware.machinery c.args.hw.now).state in
    let n = c.loop-done.done in
    let before = c.loop-done.invariant in
    let r = c.step-stepped.result in
    let made = c.step-stepped.new.self.frame.writes in
    let tells : Tells d (steps d n s) made r =
    subst (λ t. Tells d t made r) before.ran.state c.step-stepped.ensures.tells in
    record {
      tally = tally-next d n s _ _ made r before.tally tells c.count.ensures.counted;
      balanced = c.count.ensures.balanced;
      ran = Ran-then d n 1 _ _ _ before.ran c.step-stepped.ensures.ran;
      later = omega (arith, before.later, c.in_ok-put_next_piece.ensures.later, c.in_ok-put_turn.ensures.later);
      fixed = c.step-stepped.ensures.fixed ∙ before.fixed;
    }

pub returns-clause-tally : goal.returns-clause-tally
returns-clause-tally g c =
    let end : c.loop-done.done ≡ c.args.n = omega (arith, c.loop-done-test.false, c.loop-done.auto.done-end) in
    subst (λ n. IsTally c.args.m.now.desc n (g.H.Hardware.machinery c.args.hw.now).state c.loop-done.tally) end c.loop-done.invariant.tally

pub returns-clause-ran : goal.returns-clause-ran
returns-clause-ran g c =
    let end : c.loop-done.done ≡ c.args.n = omega (arith, c.loop-done-test.false, c.loop-done.auto.done-end) in
    subst (λ n. Ran c.args.m.now.desc n (g.H.Hardware.machinery c.args.hw.now) (g.H.Hardware.machinery c.loop-done.hw)) end c.loop-done.invariant.ran
