use Rattle.std.proofs.Common.{refl, ap, sym, ◌∙◌, lit<}
use Rattle.pg_word.specs.declared.psw.Psw.{Psw}
use Rattle.pg_lang_meaning.specs.States.{State}
use Rattle.pg_hw.specs.Bursts.{traps}
use Rattle.pg_mon_control.specs.Current.{with_psw}
use Rattle.pg_mon_control.proofs.DirectLemmas.{DirectStep-of, accepted-alike}
use Rattle.pg_mon_control.proofs.BurstLemmas.{Directly-burst, burst-one, steps-once, Runs-calm, Stopped-once, Halted-once, Stopped-turned, Stopped-state}
use Rattle.pg_monitor.proofs.WentLemmas.{Went-direct, Went-halted, Ran-step}
use Rattle.pg_monitor.proofs.turning.turn_once.Goals as goal

pub interpret-requires-clause-holds : goal.interpret-requires-clause-holds
interpret-requires-clause-holds g c =
    let d = c.args.m.now.desc in
    let control = sym (ap (λ (x : Psw). x.mode) c.psw-psw.ensures) ∙ c.in-S.is in
    let stopped = Stopped-once d _ _ c.args.guest.now (accepted-alike d c.args.guest.now.psw.mode c.requires.accepted) c.args.m.now.valid c.requires.runs c.step.ensures.state control in
    (Halted-once d _ _ c.args.guest.now stopped (accepted-alike d c.args.guest.now.psw.mode c.requires.accepted) c.args.m.now.valid c.requires.runs c.step.ensures.state control).holds

pub returns-in-U-clause-went : goal.returns-in-U-clause-went
returns-in-U-clause-went g c =
    let d = c.args.m.now.desc in
    let moved = c.step.ensures.state ∙ sym (steps-once d _) in
    let run = Directly-burst d 1 1 _ c.args.guest.now (accepted-alike d c.args.guest.now.psw.mode c.requires.accepted) c.args.m.now.valid c.requires.runs (lit< tt) (burst-one d _)
    (sym (ap (λ (x : Psw). x.mode) (c.psw-psw.ensures ∙ ap (λ (s : State). s.psw) moved)) ∙ c.in-U.is) in
    Went-direct d 1 _ _ c.args.guest.now _ run
    (Ran-step d _ _ c.step.ensures.state c.step.ensures.tally c.step.ensures.bottom)
    (ap (λ (x : Psw). with_psw c.args.guest.now (record c.args.guest.now.psw { p = x.p })) c.psw-psw.ensures)

pub returns-in-U-clause-told : goal.returns-in-U-clause-told
returns-in-U-clause-told g c =
    let d = c.args.m.now.desc in
    let calm = Runs-calm d _ c.args.guest.now c.args.m.now.valid c.requires.runs
    (sym (ap (λ (x : Psw). x.mode) (c.psw-psw.ensures ∙ ap (λ (s : State). s.psw) c.step.ensures.state)) ∙ c.in-U.is) in
    sym (DirectStep-of d _ c.args.guest.now ((accepted-alike d c.args.guest.now.psw.mode c.requires.accepted).goes _ c.args.guest.now refl c.requires.runs) c.args.m.now.valid c.requires.runs calm).calm

pub returns-in-S-clause-went : goal.returns-in-S-clause-went
returns-in-S-clause-went g c =
    let d = c.args.m.now.desc in
    let control = sym (ap (λ (x : Psw). x.mode) c.psw-psw.ensures) ∙ c.in-S.is in
    let stopped = Stopped-once d _ _ c.args.guest.now (accepted-alike d c.args.guest.now.psw.mode c.requires.accepted) c.args.m.now.valid c.requires.runs c.step.ensures.state control in
    let halted = Halted-once d _ _ c.args.guest.now stopped (accepted-alike d c.args.guest.now.psw.mode c.requires.accepted) c.args.m.now.valid c.requires.runs c.step.ensures.state control in
    Went-halted d 1 _ _ _ c.args.guest.now _ _ c.args.m.now.valid stopped halted
    (Ran-step d _ _ c.step.ensures.state c.step.ensures.tally c.step.ensures.bottom) c.interpret.ensures.interpreted

pub returns-in-S-clause-told : goal.returns-in-S-clause-told
returns-in-S-clause-told g c =
    let d = c.args.m.now.desc in
    let control = sym (ap (λ (x : Psw). x.mode) c.psw-psw.ensures) ∙ c.in-S.is in
    let stopped = Stopped-once d _ _ c.args.guest.now (accepted-alike d c.args.guest.now.psw.mode c.requires.accepted) c.args.m.now.valid c.requires.runs c.step.ensures.state control in
    let halted = Halted-once d _ _ c.args.guest.now stopped (accepted-alike d c.args.guest.now.psw.mode c.requires.accepted) c.args.m.now.valid c.requires.runs c.step.ensures.state control in
    c.interpret.ensures.told ∙ ap (traps d) (Stopped-state d _ _ c.args.guest.now _ stopped halted)

pub returns-in-S-clause-direct : goal.returns-in-S-clause-direct
returns-in-S-clause-direct g c =
    let d = c.args.m.now.desc in
    let control = sym (ap (λ (x : Psw). x.mode) c.psw-psw.ensures) ∙ c.in-S.is in
    let stopped = Stopped-once d _ _ c.args.guest.now (accepted-alike d c.args.guest.now.psw.mode c.requires.accepted) c.args.m.now.valid c.requires.runs c.step.ensures.state control in
    let halted = Halted-once d _ _ c.args.guest.now stopped (accepted-alike d c.args.guest.now.psw.mode c.requires.accepted) c.args.m.now.valid c.requires.runs c.step.ensures.state control in
    let not_direct = Stopped-turned d _ _ c.args.guest.now _ stopped halted in
    λ is. absurd (let wrong : ⊥ = cc in wrong)
