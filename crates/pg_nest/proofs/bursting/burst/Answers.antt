use Rattle.std.proofs.Common.{◌-◌, ◌≤◌, ◌+◌, ◌∙◌, ap, refl, subst, arith}
use Rattle.pg_mach_ready.specs.declared.machine.Machine.{Machine}
use Rattle.pg_lang_meaning.specs.Steps.{steps}
use Rattle.pg_hw.specs.Bursts.{BottomRises}
use Rattle.pg_hw.proofs.BurstLaws.{BottomRises-none, BottomRises-then, untrapped_among-most}
use Rattle.pg_hw.proofs.RunLemmas.{InBurst-none, InBurst-whole}
use Rattle.pg_nest.specs.Presenting.{first_state, Presents}
use Rattle.pg_nest.specs.Bursting.{IsSegment}
use Rattle.pg_nest.proofs.SegmentLemmas.{next-within, next-state, next-counted, next-goes_on}
use Rattle.pg_nest.proofs.bursting.burst.Goals as goal

pub loop-all-init : goal.loop-all-init
loop-all-init g c = record {
  within = omega arith;
  run = InBurst-none c.args.monitor.now.accepted.machine.now.desc c.args.most _;
  bottom = BottomRises-none c.args.monitor.now.accepted.machine.now.desc _ _;
  presents = c.requires.presents;
  machine = refl;
  fixed = refl;
}

pub overflow_add-all-in-loop-all : goal.overflow_add-all-in-loop-all
overflow_add-all-in-loop-all g c =
    let d = c.args.monitor.now.accepted.machine.now.desc in
    let before = c.loop-all.invariant in
    let same = ap (λ (x : Machine). x.desc) before.machine in
    let next = c.go_on-next.result in
    let old = first_state (g.H.Hardware.machinery c.args.hw.now).state.cells c.args.monitor.now.guests in
    let mid = first_state (g.H.Hardware.machinery c.loop-all.hw).state.cells c.loop-all.monitor.guests in
    let new = first_state (g.H.Hardware.machinery c.go_on-next.new.hw).state.cells c.go_on-next.new.monitor.guests in
    let more = subst (λ x. IsSegment x (c.args.most - c.loop-all.all.done) mid next) same c.go_on-next.ensures.segment in
    let counted = next-counted d c.args.most c.loop-all.all.done c.loop-all.all.untrapped old mid new next before.run more c.loop-all-test.true in
    let within = next-within d c.args.most c.loop-all.all.done c.loop-all.all.untrapped old mid new next before.run more c.loop-all-test.true in
    let few = untrapped_among-most d (c.loop-all.all.done + next.done) old in
    let fits : c.loop-all.all.untrapped + next.untrapped ≤ c.args.most = omega (arith, counted, within, few) in
    search (arith, fits, c.ranges.most.fits)

pub returns-then-next-clause-untrapped : goal.returns-then-next-clause-untrapped
returns-then-next-clause-untrapped g c =
    let d = c.args.monitor.now.accepted.machine.now.desc in
    let before = c.loop-all.invariant in
    let same = ap (λ (x : Machine). x.desc) before.machine in
    let next = c.go_on-next.result in
    let old = first_state (g.H.Hardware.machinery c.args.hw.now).state.cells c.args.monitor.now.guests in
    let mid = first_state (g.H.Hardware.machinery c.loop-all.hw).state.cells c.loop-all.monitor.guests in
    let new = first_state (g.H.Hardware.machinery c.go_on-next.new.hw).state.cells c.go_on-next.new.monitor.guests in
    let more = subst (λ x. IsSegment x (c.args.most - c.loop-all.all.done) mid next) same c.go_on-next.ensures.segment in
    next-counted d c.args.most c.loop-all.all.done c.loop-all.all.untrapped old mid new next before.run more c.loop-all-test.true

pub returns-then-next-clause-state : goal.returns-then-next-clause-state
returns-then-next-clause-state g c =
    let d = c.args.monitor.now.accepted.machine.now.desc in
    let before = c.loop-all.invariant in
    let same = ap (λ (x : Machine). x.desc) before.machine in
    let next = c.go_on-next.result in
    let old = first_state (g.H.Hardware.machinery c.args.hw.now).state.cells c.args.monitor.now.guests in
    let mid = first_state (g.H.Hardware.machinery c.loop-all.hw).state.cells c.loop-all.monitor.guests in
    let new = first_state (g.H.Hardware.machinery c.go_on-next.new.hw).state.cells c.go_on-next.new.monitor.guests in
    let more = subst (λ x. IsSegment x (c.args.most - c.loop-all.all.done) mid next) same c.go_on-next.ensures.segment in
    next-state d c.args.most c.loop-all.all.done c.loop-all.all.untrapped old mid new next before.run more c.loop-all-test.true
    (c.go_on-next.ensures.state ∙ ap (λ x. steps x next.done mid) same)

pub returns-then-next-clause-bottom : goal.returns-then-next-clause-bottom
returns-then-next-clause-bottom g c =
    let d = c.args.monitor.now.accepted.machine.now.desc in
    let before = c.loop-all.invariant in
    let same = ap (λ (x : Machine). x.desc) before.machine in
    let next = c.go_on-next.result in
    let old = first_state (g.H.Hardware.machinery c.args.hw.now).state.cells c.args.monitor.now.guests in
    let mid = first_state (g.H.Hardware.machinery c.loop-all.hw).state.cells c.loop-all.monitor.guests in
    let was = (g.H.Hardware.machinery c.loop-all.hw).bottom in
    let now = (g.H.Hardware.machinery c.go_on-next.new.hw).bottom in
    let more = subst (λ x. BottomRises x next.done mid was now) same c.go_on-next.ensures.bottom in
    BottomRises-then d c.loop-all.all.done next.done old (g.H.Hardware.machinery c.args.hw.now).bottom was now before.bottom
    (subst (λ s. BottomRises d next.done s was now) before.run.state more)

pub loop-all-preserved : goal.loop-all-preserved
loop-all-preserved g c =
    let d = c.args.monitor.now.accepted.machine.now.desc in
    let before = c.loop-all.invariant in
    let same = ap (λ (x : Machine). x.desc) before.machine in
    let next = c.go_on-next.result in
    let old = first_state (g.H.Hardware.machinery c.args.hw.now).state.cells c.args.monitor.now.guests in
    let mid = first_state (g.H.Hardware.machinery c.loop-all.hw).state.cells c.loop-all.monitor.guests in
    let new = first_state (g.H.Hardware.machinery c.go_on-next.new.hw).state.cells c.go_on-next.new.monitor.guests in
    let was = (g.H.Hardware.machinery c.loop-all.hw).bottom in
    let now = (g.H.Hardware.machinery c.go_on-next.new.hw).bottom in
    let more = subst (λ x. IsSegment x (c.args.most - c.loop-all.all.done) mid next) same c.go_on-next.ensures.segment in
    let rises = subst (λ x. BottomRises x next.done mid was now) same c.go_on-next.ensures.bottom in
    record {
      within = next-within d c.args.most c.loop-all.all.done c.loop-all.all.untrapped old mid new next before.run more c.loop-all-test.true;
      run = next-goes_on d c.args.most c.loop-all.all.done c.loop-all.all.untrapped old mid new next before.run more c.loop-all-test.true
          (c.go_on-next.ensures.state ∙ ap (λ x. steps x next.done mid) same) c.if-next.false;
      bottom = BottomRises-then d c.loop-all.all.done next.done old (g.H.Hardware.machinery c.args.hw.now).bottom was now before.bottom
          (subst (λ s. BottomRises d next.done s was now) before.run.state rises);
      presents = subst (λ x. Presents x (g.H.Hardware.machinery c.go_on-next.new.hw).state c.go_on-next.new.monitor.guests c.go_on-next.new.monitor.current) same c.go_on-next.ensures.presents;
      machine = c.go_on-next.ensures.machine ∙ before.machine;
      fixed = c.go_on-next.ensures.fixed ∙ before.fixed;
    }

pub returns-clause-count : goal.returns-clause-count
returns-clause-count g c =
    let before = c.loop-all.invariant in
    InBurst-whole c.args.monitor.now.accepted.machine.now.desc c.args.most c.loop-all.all.done c.loop-all.all.untrapped _ _ before.run c.loop-all-test.false
