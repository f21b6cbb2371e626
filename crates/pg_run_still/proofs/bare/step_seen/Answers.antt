use Rattle.std.proofs.Common.{◌∙◌, ap, sym, subst, arith}
use Rattle.pg_hw.specs.Bursts.{traps}
use Rattle.pg_hw.specs.Serving.{IsServed}
use Rattle.pg_hw.specs.Stillness.{IsStill}
use Rattle.pg_run_still.proofs.StandLemmas.{whole-guest, whole-served, whole-state, whole-step}
use Rattle.pg_run_still.proofs.bare.step_seen.Goals as goal

pub emulate_seen-seen-requires-clause-within : goal.emulate_seen-seen-requires-clause-within
emulate_seen-seen-requires-clause-within g c = omega (arith, c.size-size.ensures)

pub emulate_seen-seen-requires-clause-guest : goal.emulate_seen-seen-requires-clause-guest
emulate_seen-seen-requires-clause-guest g c =
    whole-state c.args.m.now.desc (g.H.Hardware.machinery c.args.hw.now).state _ _ c.size-size.ensures c.psw-psw.ensures c.requires.state

pub set_psw-requires : goal.set_psw-requires
set_psw-requires g c =
    let d = c.args.m.now.desc in
    let served = subst (λ f. IsServed (g.H.Hardware.serves f) d) (sym c.emulate_seen-seen.ensures.fixed) c.requires.served in
    whole-served _ d (g.H.Hardware.machinery c.args.hw.now).state _ _ _ served c.args.m.now.valid c.requires.state c.size-size.ensures c.psw-psw.ensures c.emulate_seen-seen.ensures.psw

pub returns-clause-state : goal.returns-clause-state
returns-clause-state g c =
    whole-step c.args.m.now.desc _ _ _ (g.H.Hardware.machinery c.args.hw.now) _ _ c.args.m.now.valid c.requires.state c.size-size.ensures c.psw-psw.ensures c.emulate_seen-seen.ensures.grant
    c.emulate_seen-seen.ensures.psw c.set_psw.ensures.loaded

pub returns-clause-trapped : goal.returns-clause-trapped
returns-clause-trapped g c =
    c.emulate_seen-seen.ensures.trapped
    ∙ ap (traps c.args.m.now.desc) (whole-guest (g.H.Hardware.machinery c.args.hw.now).state _ _ c.size-size.ensures c.psw-psw.ensures)

pub returns-clause-still : goal.returns-clause-still
returns-clause-still g c = λ is.
    subst (IsStill c.args.m.now.desc) (whole-guest (g.H.Hardware.machinery c.args.hw.now).state _ _ c.size-size.ensures c.psw-psw.ensures) (c.emulate_seen-seen.ensures.still is)

pub returns-clause-moves : goal.returns-clause-moves
returns-clause-moves g c = λ is still. c.emulate_seen-seen.ensures.moves is
    (subst (IsStill c.args.m.now.desc) (sym (whole-guest (g.H.Hardware.machinery c.args.hw.now).state _ _ c.size-size.ensures c.psw-psw.ensures)) still)
