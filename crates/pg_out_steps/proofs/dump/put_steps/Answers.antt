use Rattle.std.proofs.Common.{◌≡◌, refl, sym, ◌∙◌, ap, subst, arith}
use Rattle.pg_edge.specs.Sink.{Adds}
use Rattle.pg_edge.specs.Told.{BothTold}
use Rattle.pg_edge.proofs.PutsLaws.{Adds-nil}
use Rattle.pg_hw.specs.Running.{Ran}
use Rattle.pg_hw.proofs.RunLemmas.{Ran-none, Ran-then}
use Rattle.pg_lang_meaning.specs.States.{IsState}
use Rattle.pg_lang_meaning.specs.Steps.{steps}
use Rattle.pg_out_steps.specs.Handling.{handling_under}
use Rattle.pg_out_steps.specs.Tells.{Tells}
use Rattle.pg_lang_valid.proofs.StepSound.{steps-state}
use Rattle.pg_out_steps.specs.Dump.{last_sample, sample_of, steps_text}
use Rattle.pg_out_steps.specs.Values.{sample_text}
use Rattle.pg_out_steps.proofs.DumpLemmas.{last-next, sample-is, steps-next}
use Rattle.pg_out_steps.proofs.dump.put_steps.Goals as goal

pub loop-done-init : goal.loop-done-init
unfolding steps_text
loop-done-init g c = record {
  monitor = c.new-tracer.ensures;
  last = refl;
  ran = Ran-none c.args.m.now.desc _;
  put = Adds-nil _;
  later = omega arith;
  fixed = refl;
}

pub step-stepped-requires-clause-state : goal.step-stepped-requires-clause-state
step-stepped-requires-clause-state g c =
    subst (λ s. IsState c.args.m.now.desc s) (sym c.loop-done.invariant.ran.state)
    (steps-state c.args.m.now.desc _ _ c.args.m.now.valid c.requires.state)

pub loop-done-preserved : goal.loop-done-preserved
loop-done-preserved g c =
    let d = c.args.m.now.desc in
    let s = (g.H.Hardware.machinery c.args.hw.now).state in
    let n = c.loop-done.done in
    let before = c.loop-done.invariant in
    let r = c.step-stepped.result in
    let made = c.step-stepped.new.self.frame.writes in
    let tells : Tells d (steps d n s) made r = subst (λ t. Tells d t made r) before.ran.state c.step-stepped.ensures.tells in
    let handling : r.handling ≡ handling_under c.args.monitor d (steps d n s) =
    c.step-stepped.ensures.handling ∙ ap (λ monitor. handling_under monitor d (g.H.Hardware.machinery c.loop-done.hw).state) before.monitor ∙ ap (handling_under c.args.monitor d) before.ran.state in
    let sample : c.of_step-sample.result ≡ sample_of c.args.monitor d (steps d n s) =
    sample-is c.args.monitor d (steps d n s) made r _ tells handling c.of_step-sample.ensures.psw c.of_step-sample.ensures.instr c.of_step-sample.ensures.cause
    c.of_step-sample.ensures.handling in
    record {
      monitor = c.step-stepped.ensures.same_monitor ∙ before.monitor;
      last = last-next c.args.monitor d n s _ sample;
      ran = Ran-then d n 1 _ _ _ before.ran c.step-stepped.ensures.ran;
      put = steps-next c.args.monitor d n s _ _ _ c.loop-done.last _ before.put before.last sample
          (subst (λ ss. BothTold (g.S.Sink.written c.loop-done.out) (g.S.Sink.written c.put_sample.new.out) (Adds (sample_text n ss c.loop-done.last c.of_step-sample.result))) c.signals_of-signals.ensures c.in_ok-put_sample.ensures.put);
      later = omega (arith, before.later, c.in_ok-put_sample.ensures.later);
      fixed = c.step-stepped.ensures.fixed ∙ before.fixed;
    }

pub returns-clause-last : goal.returns-clause-last
returns-clause-last g c =
    let end : c.loop-done.done ≡ c.args.n = omega (arith, c.loop-done-test.false, c.loop-done.auto.done-end) in
    c.loop-done.invariant.last ∙ ap (λ n. last_sample c.args.monitor c.args.m.now.desc n (g.H.Hardware.machinery c.args.hw.now).state) end

pub returns-clause-ran : goal.returns-clause-ran
returns-clause-ran g c =
    let end : c.loop-done.done ≡ c.args.n = omega (arith, c.loop-done-test.false, c.loop-done.auto.done-end) in
    subst (λ n. Ran c.args.m.now.desc n (g.H.Hardware.machinery c.args.hw.now) (g.H.Hardware.machinery c.loop-done.hw)) end c.loop-done.invariant.ran

pub returns-clause-put : goal.returns-clause-put
returns-clause-put g c =
    let end : c.loop-done.done ≡ c.args.n = omega (arith, c.loop-done-test.false, c.loop-done.auto.done-end) in
    subst (λ n. BothTold (g.S.Sink.written c.args.out.now) (g.S.Sink.written c.loop-done.out) (Adds (steps_text c.args.monitor c.args.m.now.desc n (g.H.Hardware.machinery c.args.hw.now).state))) end
    c.loop-done.invariant.put
