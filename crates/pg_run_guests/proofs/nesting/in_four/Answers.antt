use Rattle.std.proofs.Common.{◌≡◌, ◌∙◌, ◌≤◌, ◌-◌, ap, sym, subst, lit<, lit≤, List}
use Rattle.std.proofs.lemmas.Result.{IfOk-weaker, on_ok_weaker, on_err_weaker}
use Rattle.pg_mach_ready.specs.declared.machine.Machine.{Machine}
use Rattle.pg_type.specs.Agreeing.{Agree}
use Rattle.pg_hw.specs.Machinery.{Machinery}
use Rattle.pg_mon_control.specs.Counting.{CanCount}
use Rattle.pg_nest.specs.Levels.{level_of, Carries}
use Rattle.pg_run_guests.specs.Nesting.{IsInnermost}
use Rattle.pg_run_guests.proofs.NestLemmas.{IsUnder, under-agrees, under-size, under-narrower, under-can, under-least, under-innermost, under-some, under-nested}
use Rattle.pg_run_guests.proofs.nesting.in_four.Goals as goal

pub narrowed-requires : goal.narrowed-requires
narrowed-requires g c = under-least 3 c.args.accepted.machine.now.desc c.args.image.now c.args.steps (lit≤ tt) c.requires.can_nest

pub narrow-inner-requires-clause-agrees : goal.narrow-inner-requires-clause-agrees
narrow-inner-requires-clause-agrees g c =
    under-agrees 3 c.args.accepted.machine.now.desc c.in-Ok.machine.desc c.args.image.now c.args.steps (record { machine = c.in-Ok.ensures; can = c.requires.can_nest })

pub narrow-inner-requires-clause-narrower : goal.narrow-inner-requires-clause-narrower
narrow-inner-requires-clause-narrower g c =
    under-narrower 3 c.args.accepted.machine.now.desc c.in-Ok.machine.desc c.args.image.now c.args.steps (record { machine = c.in-Ok.ensures; can = c.requires.can_nest })

pub in_three-level-requires-clause-served : goal.in_three-level-requires-clause-served
in_three-level-requires-clause-served g c =
    let d = c.args.accepted.machine.now.desc in
    let e = c.narrow-inner.result.machine.now.desc in
    ∣ subst (λ (m : Machine). Agree m.desc e) (sym c.new-level.ensures.machine)
    (under-agrees 3 d e c.args.image.now c.args.steps (record { machine = ap (λ (m : Machine). m.desc) c.narrow-inner.ensures ∙ c.in-Ok.ensures; can = c.requires.can_nest })) ∣₁

pub in_three-level-requires-clause-room : goal.in_three-level-requires-clause-room
in_three-level-requires-clause-room g c =
    let d = c.args.accepted.machine.now.desc in
    let e = c.narrow-inner.result.machine.now.desc in
    subst (λ (m : Machine). e.size ≤ m.desc.size - 2) (sym c.new-level.ensures.machine)
    (under-size 3 d e c.args.image.now c.args.steps (record { machine = ap (λ (m : Machine). m.desc) c.narrow-inner.ensures ∙ c.in-Ok.ensures; can = c.requires.can_nest }))

pub in_three-level-requires-clause-can_nest : goal.in_three-level-requires-clause-can_nest
in_three-level-requires-clause-can_nest g c =
    under-can 3 c.args.accepted.machine.now.desc c.narrow-inner.result.machine.now.desc c.args.image.now c.args.steps
    (record { machine = ap (λ (m : Machine). m.desc) c.narrow-inner.ensures ∙ c.in-Ok.ensures; can = c.requires.can_nest })

pub returns-clause-innermost : goal.returns-clause-innermost
returns-clause-innermost g c =
    let d = c.args.accepted.machine.now.desc in
    let e = c.narrow-inner.result.machine.now.desc in
    IfOk-weaker c.in_three-level.new.out (λ x. IsInnermost e c.args.image.now c.args.steps x) (λ x. IsInnermost d c.args.image.now c.args.steps x)
    (under-innermost 3 d e c.args.image.now c.args.steps (record { machine = ap (λ (m : Machine). m.desc) c.narrow-inner.ensures ∙ c.in-Ok.ensures; can = c.requires.can_nest }))
    c.in_three-level.ensures.innermost

pub returns-clause-nested : goal.returns-clause-nested
returns-clause-nested g c =
    let d = c.args.accepted.machine.now.desc in
    let e = c.narrow-inner.result.machine.now.desc in
    let lower = c.new-level.result in
    let upper = c.in_three-level.result in
    let above : Machinery = level_of (g.K.Hardware.machinery lower.hw) lower.monitor lower.idle lower.counts in
    let below : Machinery = level_of (g.K.Hardware.machinery upper.hw) upper.monitor upper.idle upper.counts in
    let old = g.K.Hardware.machinery c.args.hw in
    let new = g.K.Hardware.machinery c.into_inner.result in
    let under : IsUnder 3 d e c.args.image.now c.args.steps = record { machine = ap (λ (m : Machine). m.desc) c.narrow-inner.ensures ∙ c.in-Ok.ensures; can = c.requires.can_nest } in
    let same = ap (λ p. p.0) c.in_three-level.ensures.fixed ∙ ap (λ (m : Machine). m.desc) c.new-level.ensures.machine in
    on_ok_weaker c.in_three-level.new.out
    (λ nested. under-nested 3 d e c.args.image.now c.args.steps under above below old new
    (subst (λ x. Carries x below.state new.state) same (c.into_inner.ensures.carries (under-some 3 d e c.args.image.now c.args.steps under below.state nested.holds)))
    (ap (λ h. (g.K.Hardware.machinery h).bottom) c.new-level.ensures.hw)
    (ap (λ h. (g.K.Hardware.machinery h).bottom) (sym c.into_inner.ensures.hw))
    nested)
    c.in_three-level.ensures.nested

pub returns-clause-refused : goal.returns-clause-refused
returns-clause-refused g c =
    on_err_weaker c.in_three-level.new.out
    (λ same. ap (λ h. (g.K.Hardware.machinery h).bottom) c.into_inner.ensures.hw ∙ same ∙ ap (λ h. (g.K.Hardware.machinery h).bottom) c.new-level.ensures.hw)
    c.in_three-level.ensures.refused

pub returns-clause-fixed : goal.returns-clause-fixed
returns-clause-fixed g c = ap g.K.Hardware.fixed c.into_inner.ensures.hw ∙ ap (λ p. p.1) c.in_three-level.ensures.fixed ∙ ap g.K.Hardware.fixed c.new-level.ensures.hw
