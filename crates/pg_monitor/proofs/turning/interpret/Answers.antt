use Rattle.std.proofs.Common.{sym, subst}
use Rattle.pg_word.specs.Psw.{IsPsw}
use Rattle.pg_lang_valid.proofs.StepSound.{step-state}
use Rattle.pg_hw.specs.Serving.{IsServed}
use Rattle.pg_hw.proofs.ServingLaws.{IsServedPsw-of}
use Rattle.pg_mon_control.proofs.StateLemmas.{composed-fits}
use Rattle.pg_monitor.proofs.turning.interpret.Goals as goal

pub enter-requires-clause-fits : goal.enter-requires-clause-fits
enter-requires-clause-fits g c =
    let d = c.args.m.now.desc in
    let held = c.requires.holds in
    IsServedPsw-of _ d _ (subst (λ f. IsServed (g.H.Hardware.serves f) d) (sym c.emulate_seen-told.ensures.fixed) c.requires.served)
    (composed-fits d _ _ _ c.args.m.now.valid held.grant.within
    (subst (IsPsw d.address) (sym c.emulate_seen-told.ensures.psw) (step-state d _ c.args.m.now.valid held.virtual_state).fields))
