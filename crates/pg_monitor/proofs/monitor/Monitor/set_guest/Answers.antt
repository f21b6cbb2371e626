use Rattle.std.proofs.Common.{◌≡◌, refl, sym, subst, List}
use Rattle.pg_hw.proofs.ServingLaws.{IsServedPsw-of}
use Rattle.pg_mon_control.specs.declared.guest.Guest.{Guest}
use Rattle.pg_mon_control.specs.Guests.{virtuals}
use Rattle.pg_monitor.specs.Reaching.{under_psw, changed_at}
use Rattle.pg_mon_control.specs.Standing.{Stands}
use Rattle.pg_mon_control.proofs.GuestLemmas.{Holds-of}
use Rattle.pg_mon_control.proofs.StateLemmas.{Holds-addressable, composed-fits}
use Rattle.pg_mon_control.proofs.OwnLemmas.{owned-set}
use Rattle.pg_monitor.proofs.ResetLemmas.{reset-states, reset-stands}
use Rattle.pg_monitor.proofs.monitor.Monitor.set_guest.Goals as goal

pub reenter-requires-clause-addressable : goal.reenter-requires-clause-addressable
reenter-requires-clause-addressable g c =
    let m = c.args.self.now.accepted.machine.now in
    Holds-addressable m.desc _ c.guest.result m.valid (Holds-of m.desc _ c.args.self.now.guests c.args.self.now.current c.args.k c.guest.result c.requires.stands c.guest.ensures)

pub reenter-requires-clause-fits : goal.reenter-requires-clause-fits
reenter-requires-clause-fits g c =
    let m = c.args.self.now.accepted.machine.now in
    let held = Holds-of m.desc _ c.args.self.now.guests c.args.self.now.current c.args.k c.guest.result c.requires.stands c.guest.ensures in
    IsServedPsw-of _ m.desc _ c.requires.served (composed-fits m.desc c.args.psw _ _ m.valid held.grant.within c.requires.fields)

pub invariant_of-self : goal.invariant_of-self
invariant_of-self g c = record {
  owned = owned-set _ _ c.args.self.now.guests _ c.args.k c.guest.result _ c.args.self.now.owned c.guest.ensures refl refl c.set.ensures;
}

pub returns-clause-stands : goal.returns-clause-stands
returns-clause-stands g c =
    let m = c.args.self.now.accepted.machine.now in
    subst (λ (gs : List Guest). Stands m.desc (g.H.Hardware.machinery c.reenter.new.hw).state gs c.args.self.now.current) (sym c.set.ensures)
    (reset-stands m.desc (g.H.Hardware.machinery c.args.hw.now) (g.H.Hardware.machinery c.reenter.new.hw) c.args.self.now.guests c.args.self.now.current c.args.k c.guest.result c.args.psw
    (record { valid = m.valid; stands = c.requires.stands; guest = c.guest.ensures; fields = c.requires.fields; entered = c.reenter.ensures.entered }))

pub returns-clause-states : goal.returns-clause-states
returns-clause-states g c =
    let m = c.args.self.now.accepted.machine.now in
    subst (λ (gs : List Guest). virtuals (g.H.Hardware.machinery c.reenter.new.hw).state.cells gs
    ≡ changed_at c.args.k (under_psw c.args.psw) (virtuals (g.H.Hardware.machinery c.args.hw.now).state.cells c.args.self.now.guests)) (sym c.set.ensures)
    (reset-states m.desc (g.H.Hardware.machinery c.args.hw.now) (g.H.Hardware.machinery c.reenter.new.hw) c.args.self.now.guests c.args.self.now.current c.args.k c.guest.result c.args.psw
    (record { valid = m.valid; stands = c.requires.stands; guest = c.guest.ensures; fields = c.requires.fields; entered = c.reenter.ensures.entered }))
