use Rattle.std.proofs.Common.{false, ap, sym, ◌∙◌, subst, arith}
use Rattle.pg_word.specs.declared.psw.Psw.{Psw}
use Rattle.pg_lang_meaning.specs.States.{State, IsState}
use Rattle.pg_lang_valid.proofs.StepSound.{steps-state}
use Rattle.pg_hw.proofs.BurstLaws.{burst_length-some, burst_length-most}
use Rattle.pg_mon_control.specs.Current.{with_psw}
use Rattle.pg_mon_control.proofs.BurstLemmas.{Directly-burst, Stopped-burst, Stopped, Halted-of, entry-read}
use Rattle.pg_mon_control.proofs.DirectLemmas.{accepted-alike}
use Rattle.pg_monitor.proofs.SettleLemmas.{tells-direct, tells-still, tells-moves}
use Rattle.pg_monitor.proofs.WentLemmas.{Went-direct, Went-halted}
use Rattle.pg_monitor.proofs.settling.settle_on.Goals as goal

pub peek-requires : goal.peek-requires
peek-requires g c =
    let real = c.requires.runs.holds.real_state in
    let after = subst (λ s. IsState c.args.m.now.desc s) (sym c.burst_settling-settled.ensures.state) (steps-state c.args.m.now.desc c.burst_settling-settled.result.done _ c.args.m.now.valid real) in
    omega (arith, after.size_least)

pub interpret-told-requires-clause-holds : goal.interpret-told-requires-clause-holds
interpret-told-requires-clause-holds g c =
    let d = c.args.m.now.desc in
    let stopped : Stopped d c.burst_settling-settled.result.done (g.H.Hardware.machinery c.args.hw.now).state c.args.guest.now =
    Stopped-burst d _ _ _ c.args.guest.now (accepted-alike d c.args.guest.now.psw.mode c.requires.accepted) c.args.m.now.valid c.requires.runs c.requires.some c.burst_settling-settled.ensures.count
    (sym (ap (λ (x : Psw). x.mode) (c.psw-real.ensures ∙ ap (λ (s : State). s.psw) c.burst_settling-settled.ensures.state)) ∙ c.in-S.is) in
    let halted = Halted-of d _ _ _ c.args.guest.now _ stopped c.args.m.now.valid c.burst_settling-settled.ensures.state
    (ap (λ (x : Psw). with_psw c.args.guest.now (record c.args.guest.now.psw { p = x.p }))
    (entry-read d _ _ _ _ c.shape.ensures.numbers c.peek.ensures c.unpack.ensures.psw)) in
    halted.holds

pub overflow_sub-still : goal.overflow_sub-still
overflow_sub-still g c =
    (let least = burst_length-some c.args.m.now.desc c.args.most (g.H.Hardware.machinery c.args.hw.now).state c.requires.some in omega (arith, least, c.burst_settling-settled.ensures.count))

pub returns-in-U-clause-told : goal.returns-in-U-clause-told
returns-in-U-clause-told g c =
    let d = c.args.m.now.desc in
    record {
      some = (let least = burst_length-some d c.args.most (g.H.Hardware.machinery c.args.hw.now).state c.requires.some in omega (arith, least, c.burst_settling-settled.ensures.count));
      within = (let most = burst_length-most d c.args.most (g.H.Hardware.machinery c.args.hw.now).state in omega (arith, most, c.burst_settling-settled.ensures.count));
      first = tells-direct d _ _ _ c.args.guest.now _ (accepted-alike d c.args.guest.now.psw.mode c.requires.accepted) c.args.m.now.valid c.requires.runs c.requires.some c.burst_settling-settled.ensures.count
          (sym (ap (λ (x : Psw). x.mode) (c.psw-real.ensures ∙ ap (λ (s : State). s.psw) c.burst_settling-settled.ensures.state)) ∙ c.in-U.is) c.burst_settling-settled.ensures.still;
    }

pub returns-in-U-clause-went : goal.returns-in-U-clause-went
returns-in-U-clause-went g c =
    let d = c.args.m.now.desc in
    let run = Directly-burst d _ _ _ c.args.guest.now (accepted-alike d c.args.guest.now.psw.mode c.requires.accepted) c.args.m.now.valid c.requires.runs c.requires.some c.burst_settling-settled.ensures.count
    (sym (ap (λ (x : Psw). x.mode) (c.psw-real.ensures ∙ ap (λ (s : State). s.psw) c.burst_settling-settled.ensures.state)) ∙ c.in-U.is) in
    Went-direct d _ _ _ c.args.guest.now _ run
    (record { state = c.burst_settling-settled.ensures.state; tally = c.burst_settling-settled.ensures.tally; bottom = c.burst_settling-settled.ensures.bottom })
    (ap (λ (x : Psw). with_psw c.args.guest.now (record c.args.guest.now.psw { p = x.p })) c.psw-real.ensures)

pub returns-then-told-clause-told : goal.returns-then-told-clause-told
returns-then-told-clause-told g c =
    let d = c.args.m.now.desc in
    let stopped : Stopped d c.burst_settling-settled.result.done (g.H.Hardware.machinery c.args.hw.now).state c.args.guest.now =
    Stopped-burst d _ _ _ c.args.guest.now (accepted-alike d c.args.guest.now.psw.mode c.requires.accepted) c.args.m.now.valid c.requires.runs c.requires.some c.burst_settling-settled.ensures.count
    (sym (ap (λ (x : Psw). x.mode) (c.psw-real.ensures ∙ ap (λ (s : State). s.psw) c.burst_settling-settled.ensures.state)) ∙ c.in-S.is) in
    let halted = Halted-of d _ _ _ c.args.guest.now _ stopped c.args.m.now.valid c.burst_settling-settled.ensures.state
    (ap (λ (x : Psw). with_psw c.args.guest.now (record c.args.guest.now.psw { p = x.p }))
    (entry-read d _ _ _ _ c.shape.ensures.numbers c.peek.ensures c.unpack.ensures.psw)) in
    record {
      some = (let least = burst_length-some d c.args.most (g.H.Hardware.machinery c.args.hw.now).state c.requires.some in omega (arith, least, c.burst_settling-settled.ensures.count));
      within = (let most = burst_length-most d c.args.most (g.H.Hardware.machinery c.args.hw.now).state in omega (arith, most, c.burst_settling-settled.ensures.count));
      first = tells-still d _ _ _ _ c.args.guest.now _ stopped (accepted-alike d c.args.guest.now.psw.mode c.requires.accepted) c.args.m.now.valid c.requires.runs c.burst_settling-settled.ensures.count halted (c.interpret-told.ensures.still c.if-told.true);
    }

pub returns-then-told-clause-went : goal.returns-then-told-clause-went
returns-then-told-clause-went g c =
    let d = c.args.m.now.desc in
    let stopped : Stopped d c.burst_settling-settled.result.done (g.H.Hardware.machinery c.args.hw.now).state c.args.guest.now =
    Stopped-burst d _ _ _ c.args.guest.now (accepted-alike d c.args.guest.now.psw.mode c.requires.accepted) c.args.m.now.valid c.requires.runs c.requires.some c.burst_settling-settled.ensures.count
    (sym (ap (λ (x : Psw). x.mode) (c.psw-real.ensures ∙ ap (λ (s : State). s.psw) c.burst_settling-settled.ensures.state)) ∙ c.in-S.is) in
    let halted = Halted-of d _ _ _ c.args.guest.now _ stopped c.args.m.now.valid c.burst_settling-settled.ensures.state
    (ap (λ (x : Psw). with_psw c.args.guest.now (record c.args.guest.now.psw { p = x.p }))
    (entry-read d _ _ _ _ c.shape.ensures.numbers c.peek.ensures c.unpack.ensures.psw)) in
    Went-halted d _ _ _ _ c.args.guest.now _ _ c.args.m.now.valid stopped halted
    (record { state = c.burst_settling-settled.ensures.state; tally = c.burst_settling-settled.ensures.tally; bottom = c.burst_settling-settled.ensures.bottom })
    c.interpret-told.ensures.interpreted

pub returns-else-told-clause-told : goal.returns-else-told-clause-told
returns-else-told-clause-told g c =
    let d = c.args.m.now.desc in
    let stopped : Stopped d c.burst_settling-settled.result.done (g.H.Hardware.machinery c.args.hw.now).state c.args.guest.now =
    Stopped-burst d _ _ _ c.args.guest.now (accepted-alike d c.args.guest.now.psw.mode c.requires.accepted) c.args.m.now.valid c.requires.runs c.requires.some c.burst_settling-settled.ensures.count
    (sym (ap (λ (x : Psw). x.mode) (c.psw-real.ensures ∙ ap (λ (s : State). s.psw) c.burst_settling-settled.ensures.state)) ∙ c.in-S.is) in
    let halted = Halted-of d _ _ _ c.args.guest.now _ stopped c.args.m.now.valid c.burst_settling-settled.ensures.state
    (ap (λ (x : Psw). with_psw c.args.guest.now (record c.args.guest.now.psw { p = x.p }))
    (entry-read d _ _ _ _ c.shape.ensures.numbers c.peek.ensures c.unpack.ensures.psw)) in
    record {
      some = (let least = burst_length-some d c.args.most (g.H.Hardware.machinery c.args.hw.now).state c.requires.some in omega (arith, least, c.burst_settling-settled.ensures.count));
      within = (let most = burst_length-most d c.args.most (g.H.Hardware.machinery c.args.hw.now).state in omega (arith, most, c.burst_settling-settled.ensures.count));
      first = tells-moves d _ _ _ _ c.args.guest.now _ stopped (accepted-alike d c.args.guest.now.psw.mode c.requires.accepted) c.args.m.now.valid c.requires.runs c.burst_settling-settled.ensures.count halted (c.interpret-told.ensures.moves c.if-told.false);
    }

pub returns-else-told-clause-went : goal.returns-else-told-clause-went
returns-else-told-clause-went g c =
    let d = c.args.m.now.desc in
    let stopped : Stopped d c.burst_settling-settled.result.done (g.H.Hardware.machinery c.args.hw.now).state c.args.guest.now =
    Stopped-burst d _ _ _ c.args.guest.now (accepted-alike d c.args.guest.now.psw.mode c.requires.accepted) c.args.m.now.valid c.requires.runs c.requires.some c.burst_settling-settled.ensures.count
    (sym (ap (λ (x : Psw). x.mode) (c.psw-real.ensures ∙ ap (λ (s : State). s.psw) c.burst_settling-settled.ensures.state)) ∙ c.in-S.is) in
    let halted = Halted-of d _ _ _ c.args.guest.now _ stopped c.args.m.now.valid c.burst_settling-settled.ensures.state
    (ap (λ (x : Psw). with_psw c.args.guest.now (record c.args.guest.now.psw { p = x.p }))
    (entry-read d _ _ _ _ c.shape.ensures.numbers c.peek.ensures c.unpack.ensures.psw)) in
    Went-halted d _ _ _ _ c.args.guest.now _ _ c.args.m.now.valid stopped halted
    (record { state = c.burst_settling-settled.ensures.state; tally = c.burst_settling-settled.ensures.tally; bottom = c.burst_settling-settled.ensures.bottom })
    c.interpret-told.ensures.interpreted
