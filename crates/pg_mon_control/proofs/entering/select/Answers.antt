use Rattle.std.proofs.Common.{sym, ◌∙◌, ap}
use Rattle.std.proofs.lemmas.Option.{slice_get-get_or}
use Rattle.pg_hw.specs.Machinery.{Machinery}
use Rattle.pg_hw.proofs.ServingLaws.{IsServedPsw-of}
use Rattle.pg_mon_control.proofs.GuestLemmas.{Holds-of, Runs-of, Runs-entered, current-is}
use Rattle.pg_mon_control.proofs.StateLemmas.{composed-fits}
use Rattle.pg_mon_control.proofs.entering.select.Goals as goal

pub returns-then-is_current-clause-runs : goal.returns-then-is_current-clause-runs
returns-then-is_current-clause-runs g c =
    Runs-of c.args.m.now.desc _ c.args.guests.now c.args.current.now c.args.k _ c.requires.stands (slice_get-get_or c.args.guests.now c.args.k _ c.requires.known)
    (current-is c.args.k c.args.current.now (sym c.is_current.ensures ∙ c.if-is_current.true))

pub enter-requires-clause-fits : goal.enter-requires-clause-fits
enter-requires-clause-fits g c =
    let d = c.args.m.now.desc in
    let held = Holds-of d _ c.args.guests.now c.args.current.now c.args.k _ c.requires.stands (slice_get-get_or c.args.guests.now c.args.k _ c.requires.known) in
    IsServedPsw-of _ d _ c.requires.served (composed-fits d _ _ _ c.args.m.now.valid held.grant.within held.virtual_state.fields)

pub returns-clause-guest : goal.returns-clause-guest
returns-clause-guest g c = slice_get-get_or c.args.guests.now c.args.k _ c.requires.known

pub returns-clause-runs : goal.returns-clause-runs
returns-clause-runs g c =
    let d = c.args.m.now.desc in
    Runs-entered d _ _ _ c.args.m.now.valid
    (Holds-of d _ c.args.guests.now c.args.current.now c.args.k _ c.requires.stands (slice_get-get_or c.args.guests.now c.args.k _ c.requires.known))
    (ap (λ (h : Machinery). h.state) c.enter.ensures.entered)
