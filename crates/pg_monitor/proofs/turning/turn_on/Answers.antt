use Rattle.std.proofs.Common.{false, ap, sym, ◌∙◌, subst, arith}
use Rattle.pg_word.specs.declared.psw.Psw.{Psw}
use Rattle.pg_lang_meaning.specs.States.{State, IsState}
use Rattle.pg_lang_valid.proofs.StepSound.{steps-state}
use Rattle.pg_mon_control.specs.Current.{with_psw}
use Rattle.pg_mon_control.proofs.BurstLemmas.{Directly-burst, Stopped-burst, Stopped, Halted-of, entry-read}
use Rattle.pg_mon_control.proofs.DirectLemmas.{accepted-alike}
use Rattle.pg_monitor.proofs.WentLemmas.{Went-direct, Went-halted}
use Rattle.pg_monitor.proofs.ToldLemmas.{TellsBurst-of, calm-last, stopped-last}
use Rattle.pg_monitor.proofs.turning.turn_on.Goals as goal

pub peek-requires : goal.peek-requires
peek-requires g c =
    let real = c.requires.runs.holds.real_state in
    let after = subst (λ s. IsState c.args.m.now.desc s) (sym c.burst-turns.ensures.state) (steps-state c.args.m.now.desc c.burst-turns.result _ c.args.m.now.valid real) in
    omega (arith, after.size_least)

pub interpret-told-requires-clause-holds : goal.interpret-told-requires-clause-holds
interpret-told-requires-clause-holds g c =
    let d = c.args.m.now.desc in
    let stopped : Stopped d c.burst-turns.result (g.H.Hardware.machinery c.args.hw.now).state c.args.guest.now =
    Stopped-burst d _ _ _ c.args.guest.now (accepted-alike d c.args.guest.now.psw.mode c.requires.accepted) c.args.m.now.valid c.requires.runs c.requires.some c.burst-turns.ensures.count
    (sym (ap (λ (x : Psw). x.mode) (c.psw-real.ensures ∙ ap (λ (s : State). s.psw) c.burst-turns.ensures.state)) ∙ c.in-S.is) in
    (Halted-of d _ _ _ c.args.guest.now _ stopped c.args.m.now.valid c.burst-turns.ensures.state
    (ap (λ (x : Psw). with_psw c.args.guest.now (record c.args.guest.now.psw { p = x.p }))
    (entry-read d _ _ _ _ c.shape.ensures.numbers c.peek.ensures c.unpack.ensures.psw))).holds

pub returns-in-U-clause-told : goal.returns-in-U-clause-told
returns-in-U-clause-told g c =
    let d = c.args.m.now.desc in
    TellsBurst-of d _ _ _ c.args.guest.now false (accepted-alike d c.args.guest.now.psw.mode c.requires.accepted) c.args.m.now.valid c.requires.runs c.requires.some c.burst-turns.ensures.count
    (calm-last d _ _ _ c.args.guest.now (accepted-alike d c.args.guest.now.psw.mode c.requires.accepted) c.args.m.now.valid c.requires.runs c.requires.some c.burst-turns.ensures.count
    (sym (ap (λ (x : Psw). x.mode) (c.psw-real.ensures ∙ ap (λ (s : State). s.psw) c.burst-turns.ensures.state)) ∙ c.in-U.is))

pub returns-in-U-clause-went : goal.returns-in-U-clause-went
returns-in-U-clause-went g c =
    let d = c.args.m.now.desc in
    let run = Directly-burst d _ _ _ c.args.guest.now (accepted-alike d c.args.guest.now.psw.mode c.requires.accepted) c.args.m.now.valid c.requires.runs c.requires.some c.burst-turns.ensures.count
    (sym (ap (λ (x : Psw). x.mode) (c.psw-real.ensures ∙ ap (λ (s : State). s.psw) c.burst-turns.ensures.state)) ∙ c.in-U.is) in
    Went-direct d _ _ _ c.args.guest.now _ run
    (record { state = c.burst-turns.ensures.state; tally = c.burst-turns.ensures.tally; bottom = c.burst-turns.ensures.bottom })
    (ap (λ (x : Psw). with_psw c.args.guest.now (record c.args.guest.now.psw { p = x.p })) c.psw-real.ensures)

pub returns-in-S-clause-told : goal.returns-in-S-clause-told
returns-in-S-clause-told g c =
    let d = c.args.m.now.desc in
    let stopped : Stopped d c.burst-turns.result (g.H.Hardware.machinery c.args.hw.now).state c.args.guest.now =
    Stopped-burst d _ _ _ c.args.guest.now (accepted-alike d c.args.guest.now.psw.mode c.requires.accepted) c.args.m.now.valid c.requires.runs c.requires.some c.burst-turns.ensures.count
    (sym (ap (λ (x : Psw). x.mode) (c.psw-real.ensures ∙ ap (λ (s : State). s.psw) c.burst-turns.ensures.state)) ∙ c.in-S.is) in
    let halted = Halted-of d _ _ _ c.args.guest.now _ stopped c.args.m.now.valid c.burst-turns.ensures.state
    (ap (λ (x : Psw). with_psw c.args.guest.now (record c.args.guest.now.psw { p = x.p }))
    (entry-read d _ _ _ _ c.shape.ensures.numbers c.peek.ensures c.unpack.ensures.psw)) in
    TellsBurst-of d _ _ _ c.args.guest.now _ (accepted-alike d c.args.guest.now.psw.mode c.requires.accepted) c.args.m.now.valid c.requires.runs c.requires.some c.burst-turns.ensures.count
    (stopped-last d _ _ _ c.args.guest.now _ _ stopped halted c.interpret-told.ensures.told)

pub returns-in-S-clause-went : goal.returns-in-S-clause-went
returns-in-S-clause-went g c =
    let d = c.args.m.now.desc in
    let stopped : Stopped d c.burst-turns.result (g.H.Hardware.machinery c.args.hw.now).state c.args.guest.now =
    Stopped-burst d _ _ _ c.args.guest.now (accepted-alike d c.args.guest.now.psw.mode c.requires.accepted) c.args.m.now.valid c.requires.runs c.requires.some c.burst-turns.ensures.count
    (sym (ap (λ (x : Psw). x.mode) (c.psw-real.ensures ∙ ap (λ (s : State). s.psw) c.burst-turns.ensures.state)) ∙ c.in-S.is) in
    let halted = Halted-of d _ _ _ c.args.guest.now _ stopped c.args.m.now.valid c.burst-turns.ensures.state
    (ap (λ (x : Psw). with_psw c.args.guest.now (record c.args.guest.now.psw { p = x.p }))
    (entry-read d _ _ _ _ c.shape.ensures.numbers c.peek.ensures c.unpack.ensures.psw)) in
    Went-halted d _ _ _ _ c.args.guest.now _ _ c.args.m.now.valid stopped halted
    (record { state = c.burst-turns.ensures.state; tally = c.burst-turns.ensures.tally; bottom = c.burst-turns.ensures.bottom })
    c.interpret-told.ensures.interpreted
