use Rattle.std.proofs.Common.{◌≡◌, ◌+◌, ◌-◌, refl, sym, ◌∙◌, subst, arith}
use Rattle.pg_lang_meaning.specs.States.{IsState}
use Rattle.pg_lang_valid.proofs.StepSound.{steps-state}
use Rattle.pg_hw.specs.Running.{Ran}
use Rattle.pg_hw.proofs.BurstLaws.{burst_length-most, burst_length-some}
use Rattle.pg_hw.proofs.RunLemmas.{Ran-none, Ran-then}
use Rattle.pg_hw.proofs.runs.bare.Goals as goal

pub loop-left-init : goal.loop-left-init
loop-left-init g c = record {
  most = omega arith;
  ran = let e : 0 ≡ c.args.n - c.args.n = omega arith in
      subst (λ k. Ran c.args.m.now.desc k (g.H.Hardware.machinery c.args.hw.now) (g.H.Hardware.machinery c.args.hw.now)) e (Ran-none c.args.m.now.desc _);
  fixed = refl;
}

pub burst-left-requires-clause-state : goal.burst-left-requires-clause-state
burst-left-requires-clause-state g c =
    subst (λ s. IsState c.args.m.now.desc s) (sym c.loop-left.invariant.ran.state)
    (steps-state c.args.m.now.desc _ _ c.args.m.now.valid c.requires.state)

pub overflow_sub-left : goal.overflow_sub-left
overflow_sub-left g c =
    let most = burst_length-most c.args.m.now.desc c.loop-left.left (g.H.Hardware.machinery c.loop-left.hw).state in
    omega (arith, most, c.burst-left.ensures.count)

pub loop-left-smaller : goal.loop-left-smaller
loop-left-smaller g c =
    let some = burst_length-some c.args.m.now.desc c.loop-left.left (g.H.Hardware.machinery c.loop-left.hw).state (omega (arith, c.loop-left-test.true)) in
    omega (arith, some, c.burst-left.ensures.count, c.loop-left-test.true)

pub loop-left-preserved : goal.loop-left-preserved
loop-left-preserved g c =
    let most = burst_length-most c.args.m.now.desc c.loop-left.left (g.H.Hardware.machinery c.loop-left.hw).state in
    let within = c.loop-left.invariant.most in
    let e : (c.args.n - c.loop-left.left) + c.burst-left.result ≡ c.args.n - (c.loop-left.left - c.burst-left.result) = omega (arith, most, within, c.burst-left.ensures.count) in
    record {
      most = omega (arith, within);
      ran = subst (λ k. Ran c.args.m.now.desc k (g.H.Hardware.machinery c.args.hw.now) (g.H.Hardware.machinery c.burst-left.new.self)) e
          (Ran-then c.args.m.now.desc _ _ _ _ _ c.loop-left.invariant.ran (record {
            state = c.burst-left.ensures.state;
            tally = c.burst-left.ensures.tally;
            bottom = c.burst-left.ensures.bottom;
          }));
      fixed = c.burst-left.ensures.fixed ∙ c.loop-left.invariant.fixed;
    }
