use Rattle.std.proofs.Common.{◌≡◌, ◌<◌, refl, sym, ◌∙◌, ap, subst, arith}
use Rattle.std.specs.Prelude.{IfSome}
use Rattle.pg_lang_meaning.specs.States.{IsState}
use Rattle.pg_lang_meaning.specs.Steps.{steps}
use Rattle.pg_lang_valid.proofs.StepSound.{steps-state}
use Rattle.pg_hw.specs.Running.{Ran}
use Rattle.pg_hw.proofs.RunLemmas.{Ran-none, Ran-then}
use Rattle.pg_out_steps.specs.Counting.{IsTally}
use Rattle.pg_out_steps.specs.Fitting.{Fits}
use Rattle.pg_out_steps.specs.Handling.{AreShares, handling_under}
use Rattle.pg_out_steps.specs.Tells.{Tells}
use Rattle.pg_out_steps.specs.Traces.{PutsTrace}
use Rattle.pg_out_steps.proofs.HandlingLemmas.{shares-next}
use Rattle.pg_out_steps.proofs.TallyLemmas.{tally-next}
use Rattle.pg_out_steps.proofs.TraceLemmas.{on-err, some-none, some-next, traced-none, traced-next}
use Rattle.pg_out_steps.proofs.tracing.trace.Goals as goal

pub loop-done-init : goal.loop-done-init
loop-done-init g c = record {
  tally = c.in_ok-tally.ensures.none (g.H.Hardware.machinery c.args.hw.now).state;
  shares = c.in_ok-tally.ensures.shares c.args.telling.monitor (g.H.Hardware.machinery c.args.hw.now).state;
  monitor = c.new-tracer.ensures;
  balanced = c.in_ok-tally.ensures.balanced;
  ran = Ran-none c.args.m.now.desc _;
  puts = traced-none c.args.telling c.args.m.now.desc _ _;
  later = omega arith;
  fixed = refl;
}

pub step-stepped-requires-clause-state : goal.step-stepped-requires-clause-state
step-stepped-requires-clause-state g c =
    subst (λ s. IsState c.args.m.now.desc s) (sym c.loop-done.invariant.ran.state)
    (steps-state c.args.m.now.desc _ _ c.args.m.now.valid c.requires.state)

pub count-requires-clause-few : goal.count-requires-clause-few
count-requires-clause-few g c = omega (arith, c.loop-done.invariant.tally.steps, c.loop-done-test.true, c.requires.few)

pub count-requires-clause-within : goal.count-requires-clause-within
count-requires-clause-within g c =
    subst (λ n. IfSome c.step-stepped.result.instr (λ k. k < n)) (sym c.loop-done.invariant.tally.size) c.step-stepped.ensures.fits.instr

pub put_shown-requires : goal.put_shown-requires
put_shown-requires g c = subst (λ made. Fits c.args.m.now.desc made c.step-stepped.result) (sym c.stores-stores.ensures) c.step-stepped.ensures.fits

pub loop-done-preserved : goal.loop-done-preserved
loop-done-preserved g c =
    let d = c.args.m.now.desc in
    let s = (g.H.Hardware.machinery c.args.hw.now).state in
    let n = c.loop-done.done in
    let before = c.loop-done.invariant in
    let r = c.step-stepped.result in
    let tells : Tells d (steps d n s) c.stores-stores.result.now r =
    subst (λ made. Tells d (steps d n s) made r) (sym c.stores-stores.ensures) (subst (λ t. Tells d t c.step-stepped.new.self.frame.writes r) before.ran.state c.step-stepped.ensures.tells) in
    let handling : r.handling ≡ handling_under c.args.telling.monitor d (steps d n s) =
    c.step-stepped.ensures.handling ∙ ap (λ monitor. handling_under monitor d (g.H.Hardware.machinery c.loop-done.hw).state) before.monitor ∙ ap (handling_under c.args.telling.monitor d) before.ran.state in
    record {
      tally = tally-next d n s _ _ c.stores-stores.result.now r before.tally tells c.count.ensures.counted;
      shares = shares-next c.args.telling.monitor d n s _ _ r.handling before.shares handling c.count.ensures.counted.shares;
      monitor = c.step-stepped.ensures.same_monitor ∙ before.monitor;
      balanced = c.count.ensures.balanced;
      ran = Ran-then d n 1 _ _ _ before.ran c.step-stepped.ensures.ran;
      puts = traced-next c.args.telling d n s _ _ _ c.stores-stores.result.now r before.puts tells handling c.in_ok-put_shown.ensures.whole;
      later = omega (arith, before.later, c.in_ok-put_shown.ensures.later);
      fixed = c.step-stepped.ensures.fixed ∙ before.fixed;
    }

pub returns-clause-tally : goal.returns-clause-tally
returns-clause-tally g c =
    let end : c.loop-done.done ≡ c.args.n = omega (arith, c.loop-done-test.false, c.loop-done.auto.done-end) in
    subst (λ n. IsTally c.args.m.now.desc n (g.H.Hardware.machinery c.args.hw.now).state c.loop-done.tally) end c.loop-done.invariant.tally

pub returns-clause-shares : goal.returns-clause-shares
returns-clause-shares g c =
    let end : c.loop-done.done ≡ c.args.n = omega (arith, c.loop-done-test.false, c.loop-done.auto.done-end) in
    subst (λ n. AreShares c.args.telling.monitor c.args.m.now.desc n (g.H.Hardware.machinery c.args.hw.now).state c.loop-done.tally.shares) end c.loop-done.invariant.shares

pub returns-clause-ran : goal.returns-clause-ran
returns-clause-ran g c =
    let end : c.loop-done.done ≡ c.args.n = omega (arith, c.loop-done-test.false, c.loop-done.auto.done-end) in
    subst (λ n. Ran c.args.m.now.desc n (g.H.Hardware.machinery c.args.hw.now) (g.H.Hardware.machinery c.loop-done.hw)) end c.loop-done.invariant.ran

pub returns-clause-puts : goal.returns-clause-puts
returns-clause-puts g c =
    let end : c.loop-done.done ≡ c.args.n = omega (arith, c.loop-done-test.false, c.loop-done.auto.done-end) in
    subst (λ n. PutsTrace c.args.telling c.args.m.now.desc n (g.H.Hardware.machinery c.args.hw.now).state (g.S.Sink.written c.args.out.now) (g.S.Sink.written c.loop-done.out)) end
    c.loop-done.invariant.puts

pub returns-in_err-tally-clause-front : goal.returns-in_err-tally-clause-front
returns-in_err-tally-clause-front g c = on-err c.from_residual.result (some-none c.args.telling c.args.m.now.desc c.args.n _ _)

pub returns-in_err-put_shown-clause-front : goal.returns-in_err-put_shown-clause-front
returns-in_err-put_shown-clause-front g c =
    let d = c.args.m.now.desc in
    let s = (g.H.Hardware.machinery c.args.hw.now).state in
    let n = c.loop-done.done in
    let before = c.loop-done.invariant in
    let r = c.step-stepped.result in
    let tells : Tells d (steps d n s) c.stores-stores.result.now r =
    subst (λ made. Tells d (steps d n s) made r) (sym c.stores-stores.ensures) (subst (λ t. Tells d t c.step-stepped.new.self.frame.writes r) before.ran.state c.step-stepped.ensures.tells) in
    let handling : r.handling ≡ handling_under c.args.telling.monitor d (steps d n s) =
    c.step-stepped.ensures.handling ∙ ap (λ monitor. handling_under monitor d (g.H.Hardware.machinery c.loop-done.hw).state) before.monitor ∙ ap (handling_under c.args.telling.monitor d) before.ran.state in
    on-err c.from_residual-in_err-put_shown.result
    (some-next c.args.telling d n c.args.n s _ _ _ c.stores-stores.result.now r (omega (arith, c.loop-done-test.true)) before.puts tells handling c.in_err-put_shown.ensures.front)
