use Rattle.std.proofs.Common.{◌≡◌, ◌+◌, ◌-◌, ◌∙◌, refl, ap, sym, subst, arith}
use Rattle.pg_hw.proofs.BurstLaws.{burst_length-most}
use Rattle.pg_hw.specs.Stillness.{IsStill, TellsStill}
use Rattle.pg_lang_meaning.proofs.StepLaws.{steps-add}
use Rattle.pg_lang_meaning.specs.States.{IsState}
use Rattle.pg_lang_meaning.specs.Steps.{step, steps}
use Rattle.pg_lang_valid.proofs.StepSound.{steps-state}
use Rattle.pg_monitor.specs.Settling.{NoneStill}
use Rattle.pg_run_still.proofs.StandLemmas.{first-burst, none-burst, none-first, none-moves, met-behind, reached-burst, step-next, steps-none}
use Rattle.pg_run_still.proofs.bare.run_until.Goals as goal

pub loop-done-init : goal.loop-done-init
loop-done-init g c =
    let d = c.args.m.now.desc in
    let s = (g.H.Hardware.machinery c.args.hw.now).state in
    record { reached = steps-none d s; none = none-first d s; most = omega arith; fixed = refl }

pub burst_settling-burst-requires-clause-state : goal.burst_settling-burst-requires-clause-state
burst_settling-burst-requires-clause-state g c =
    let d = c.args.m.now.desc in
    subst (IsState d) (sym c.loop-done.invariant.reached) (steps-state d c.loop-done.done _ c.args.m.now.valid c.requires.state)

pub step_seen-seen-requires-clause-state : goal.step_seen-seen-requires-clause-state
step_seen-seen-requires-clause-state g c =
    let d = c.args.m.now.desc in
    let s = (g.H.Hardware.machinery c.args.hw.now).state in
    subst (IsState d)
    (sym (c.burst_settling-burst.ensures.state ∙ ap (steps d c.burst_settling-burst.result.done) c.loop-done.invariant.reached ∙ steps-add d c.loop-done.done c.burst_settling-burst.result.done s))
    (steps-state d (c.loop-done.done + c.burst_settling-burst.result.done) s c.args.m.now.valid c.requires.state)

-- ---- numbers

pub overflow_add-result : goal.overflow_add-result
overflow_add-result g c =
    let d = c.args.m.now.desc in
    let t = (g.H.Hardware.machinery c.loop-done.hw).state in
    let told = subst (TellsStill d c.burst_settling-burst.result.done t) c.in-Some.is c.burst_settling-burst.ensures.still in
    let before = told.before in
    let count = c.burst_settling-burst.ensures.count in
    let all = burst_length-most d c.at_once-untold.result t in
    omega (arith, before, count, all, c.at_once-untold.ensures, c.loop-done-test.true, c.ranges.most.fits)

pub overflow_add-at : goal.overflow_add-at
overflow_add-at g c =
    let count = c.burst_settling-burst.ensures.count in
    let all = burst_length-most c.args.m.now.desc c.at_once-untold.result (g.H.Hardware.machinery c.loop-done.hw).state in
    omega (arith, count, all, c.at_once-untold.ensures, c.loop-done-test.true, c.ranges.most.fits)

pub overflow_add-done : goal.overflow_add-done
overflow_add-done g c =
    let count = c.burst_settling-burst.ensures.count in
    let all = burst_length-most c.args.m.now.desc c.at_once-untold.result (g.H.Hardware.machinery c.loop-done.hw).state in
    omega (arith, count, all, c.at_once-untold.ensures, c.loop-done-test.true, c.ranges.most.fits)

-- ---- what is met

-- the burst tells of a state
pub returns-in-Some-clause-met : goal.returns-in-Some-clause-met
returns-in-Some-clause-met g c =
    let d = c.args.m.now.desc in
    let s = (g.H.Hardware.machinery c.args.hw.now).state in
    let t = (g.H.Hardware.machinery c.loop-done.hw).state in
    let n = c.burst_settling-burst.result.done in
    let before = c.loop-done.invariant in
    let count = c.burst_settling-burst.ensures.count in
    let all = burst_length-most d c.at_once-untold.result t in
    let told = subst (TellsStill d n t) c.in-Some.is c.burst_settling-burst.ensures.still in
    record {
      first = first-burst d c.at_once-untold.result c.loop-done.done n c.in-Some.n c.args.most s t before.reached count (omega (arith, count, all, c.at_once-untold.ensures, c.loop-done-test.true)) before.none told;
      reached = reached-burst d c.loop-done.done n c.in-Some.n s t _ before.reached c.burst_settling-burst.ensures.state told;
    }

-- the step behind it does
pub returns-then-seen-clause-met : goal.returns-then-seen-clause-met
returns-then-seen-clause-met g c =
    let d = c.args.m.now.desc in
    let s = (g.H.Hardware.machinery c.args.hw.now).state in
    let t = (g.H.Hardware.machinery c.loop-done.hw).state in
    let now = (g.H.Hardware.machinery c.burst_settling-burst.new.self).state in
    let n = c.burst_settling-burst.result.done in
    let before = c.loop-done.invariant in
    let count = c.burst_settling-burst.ensures.count in
    let all = burst_length-most d c.at_once-untold.result t in
    let stays = subst (TellsStill d n t) c.in-None.is c.burst_settling-burst.ensures.still in
    let still = c.step_seen-seen.ensures.still c.if-seen.true in
    met-behind d c.args.most c.loop-done.done c.at_once-untold.result n s t now _ c.step_seen-seen.result.trapped c.behind_burst.result before.reached c.burst_settling-burst.ensures.state count
    (omega (arith, count, all, c.at_once-untold.ensures, c.loop-done-test.true)) before.none stays c.step_seen-seen.ensures.trapped still (c.step_seen-seen.ensures.state ∙ still)
    c.behind_burst.ensures.about c.behind_burst.ensures.calm c.behind_burst.ensures.none

-- it goes on
pub loop-done-preserved : goal.loop-done-preserved
loop-done-preserved g c =
    let d = c.args.m.now.desc in
    let s = (g.H.Hardware.machinery c.args.hw.now).state in
    let t = (g.H.Hardware.machinery c.loop-done.hw).state in
    let done = c.loop-done.done in
    let n = c.burst_settling-burst.result.done in
    let before = c.loop-done.invariant in
    let count = c.burst_settling-burst.ensures.count in
    let all = burst_length-most d c.at_once-untold.result t in
    let stays = subst (TellsStill d n t) c.in-None.is c.burst_settling-burst.ensures.still in
    let there = c.burst_settling-burst.ensures.state ∙ ap (steps d n) before.reached ∙ steps-add d done n s in
    record {
      reached = c.step_seen-seen.ensures.state ∙ ap (step d) there ∙ step-next d (done + n) s;
      none = none-moves d (done + (n - 1)) (done + n) s (omega arith) (none-burst d c.at_once-untold.result done n s t before.reached count before.none stays)
          (λ still. c.step_seen-seen.ensures.moves c.if-seen.false (subst (IsStill d) (sym there) still));
      most = omega (arith, count, all, c.at_once-untold.ensures, c.loop-done-test.true);
      fixed = c.step_seen-seen.ensures.fixed ∙ c.burst_settling-burst.ensures.fixed ∙ before.fixed;
    }

-- all were done
pub returns-clause-met : goal.returns-clause-met
returns-clause-met g c =
    let d = c.args.m.now.desc in
    let s = (g.H.Hardware.machinery c.args.hw.now).state in
    let before = c.loop-done.invariant in
    let all : c.loop-done.done ≡ c.args.most = omega (arith, before.most, c.loop-done-test.false) in
    record { first = subst (λ k. NoneStill d k s) all before.none; reached = before.reached ∙ ap (λ k. steps d k s) all }
