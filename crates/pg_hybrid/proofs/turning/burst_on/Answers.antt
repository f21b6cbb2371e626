use Rattle.std.proofs.Common.{ap, sym, ◌∙◌, subst, arith}
use Rattle.pg_word.specs.declared.psw.Psw.{Psw}
use Rattle.pg_lang_meaning.specs.States.{State, IsState}
use Rattle.pg_lang_valid.proofs.StepSound.{steps-state}
use Rattle.pg_hw.proofs.BurstLaws.{burst_length-most, burst_length-some}
use Rattle.pg_mon_control.specs.Current.{with_psw}
use Rattle.pg_mon_control.proofs.BurstLemmas.{Directly-burst, Stopped-burst, Stopped, Halted-of, entry-read}
use Rattle.pg_hybrid.proofs.SteppedLemmas.{alike-of, Stepped-direct, Stepped-halted}
use Rattle.pg_hybrid.proofs.turning.burst_on.Goals as goal

pub peek-requires : goal.peek-requires
peek-requires g c =
    let real = c.requires.runs.holds.real_state in
    let after = subst (λ s. IsState c.args.m.now.desc s) (sym c.burst-done.ensures.state) (steps-state c.args.m.now.desc c.burst-done.result _ c.args.m.now.valid real) in
    omega (arith, after.size_least)

pub interpret-requires-clause-holds : goal.interpret-requires-clause-holds
interpret-requires-clause-holds g c =
    let d = c.args.m.now.desc in
    let stopped : Stopped d c.burst-done.result (g.H.Hardware.machinery c.args.hw.now).state c.args.guest.now =
    Stopped-burst d _ _ _ c.args.guest.now (alike-of d c.args.guest.now c.requires.accepted c.requires.user) c.args.m.now.valid c.requires.runs c.requires.some c.burst-done.ensures.count
    (sym (ap (λ (x : Psw). x.mode) (c.psw-psw.ensures ∙ ap (λ (s : State). s.psw) c.burst-done.ensures.state)) ∙ c.in-S.is) in
    (Halted-of d _ _ _ c.args.guest.now _ stopped c.args.m.now.valid c.burst-done.ensures.state
    (ap (λ (x : Psw). with_psw c.args.guest.now (record c.args.guest.now.psw { p = x.p }))
    (entry-read d _ _ _ _ c.shape.ensures.numbers c.peek.ensures c.unpack.ensures.psw))).holds

pub returns-in-U-clause-least : goal.returns-in-U-clause-least
returns-in-U-clause-least g c = omega (arith, burst_length-some c.args.m.now.desc c.args.most (g.H.Hardware.machinery c.args.hw.now).state c.requires.some, c.burst-done.ensures.count)

pub returns-in-U-clause-most : goal.returns-in-U-clause-most
returns-in-U-clause-most g c = omega (arith, burst_length-most c.args.m.now.desc c.args.most (g.H.Hardware.machinery c.args.hw.now).state, c.burst-done.ensures.count)

pub returns-in-U-clause-stepped : goal.returns-in-U-clause-stepped
returns-in-U-clause-stepped g c =
    let d = c.args.m.now.desc in
    let run = Directly-burst d _ _ _ c.args.guest.now (alike-of d c.args.guest.now c.requires.accepted c.requires.user) c.args.m.now.valid c.requires.runs c.requires.some c.burst-done.ensures.count
    (sym (ap (λ (x : Psw). x.mode) (c.psw-psw.ensures ∙ ap (λ (s : State). s.psw) c.burst-done.ensures.state)) ∙ c.in-U.is) in
    Stepped-direct d _ _ _ c.args.guest.now _ c.requires.accepted c.args.m.now.valid c.requires.runs c.requires.user run
    (record { state = c.burst-done.ensures.state; tally = c.burst-done.ensures.tally; bottom = c.burst-done.ensures.bottom })
    (ap (λ (x : Psw). with_psw c.args.guest.now (record c.args.guest.now.psw { p = x.p })) c.psw-psw.ensures)

pub returns-in-S-clause-least : goal.returns-in-S-clause-least
returns-in-S-clause-least g c = omega (arith, burst_length-some c.args.m.now.desc c.args.most (g.H.Hardware.machinery c.args.hw.now).state c.requires.some, c.burst-done.ensures.count)

pub returns-in-S-clause-most : goal.returns-in-S-clause-most
returns-in-S-clause-most g c = omega (arith, burst_length-most c.args.m.now.desc c.args.most (g.H.Hardware.machinery c.args.hw.now).state, c.burst-done.ensures.count)

pub returns-in-S-clause-stepped : goal.returns-in-S-clause-stepped
returns-in-S-clause-stepped g c =
    let d = c.args.m.now.desc in
    let stopped : Stopped d c.burst-done.result (g.H.Hardware.machinery c.args.hw.now).state c.args.guest.now =
    Stopped-burst d _ _ _ c.args.guest.now (alike-of d c.args.guest.now c.requires.accepted c.requires.user) c.args.m.now.valid c.requires.runs c.requires.some c.burst-done.ensures.count
    (sym (ap (λ (x : Psw). x.mode) (c.psw-psw.ensures ∙ ap (λ (s : State). s.psw) c.burst-done.ensures.state)) ∙ c.in-S.is) in
    let halted = Halted-of d _ _ _ c.args.guest.now _ stopped c.args.m.now.valid c.burst-done.ensures.state
    (ap (λ (x : Psw). with_psw c.args.guest.now (record c.args.guest.now.psw { p = x.p }))
    (entry-read d _ _ _ _ c.shape.ensures.numbers c.peek.ensures c.unpack.ensures.psw)) in
    Stepped-halted d _ _ _ _ c.args.guest.now _ _ c.requires.accepted c.args.m.now.valid c.requires.runs c.requires.user stopped halted
    (record { state = c.burst-done.ensures.state; tally = c.burst-done.ensures.tally; bottom = c.burst-done.ensures.bottom })
    c.interpret.ensures.interpreted
