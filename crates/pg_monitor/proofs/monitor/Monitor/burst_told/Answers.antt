use Rattle.std.proofs.Common.{refl, ap, ◌∙◌, slice_set, slice_get, List, arith}
use Rattle.pg_mach_ready.specs.declared.machine.Machine.{Machine}
use Rattle.pg_mon_control.specs.declared.guest.Guest.{Guest}
use Rattle.pg_mon_control.proofs.OwnLemmas.{owned-set}
use Rattle.pg_monitor.proofs.TurnedLemmas.{Went-machine, Stands-some, Turned-some, Turned-zero}
use Rattle.pg_monitor.proofs.ToldLemmas.{TellsBurst-guest, TellsBurst-none}
use Rattle.pg_monitor.proofs.monitor.Monitor.burst_told.Goals as goal

pub returns-then-most-eq0-clause-turned : goal.returns-then-most-eq0-clause-turned
returns-then-most-eq0-clause-turned g c = Turned-zero _ _ 0 _ _ _ c.requires.stands c.requires.known refl

pub returns-then-most-eq0-clause-told : goal.returns-then-most-eq0-clause-told
returns-then-most-eq0-clause-told g c = λ x is. TellsBurst-none _ x.base c.args.most _ c.if-most-eq0.true

pub returns-clause-told : goal.returns-clause-told
returns-clause-told g c = λ x is.
    TellsBurst-guest c.args.self.now.accepted.machine.now.desc _ c.args.most _ _ c.args.self.now.guests c.args.k c.select-guest.result x _
    (ap (λ (m : Machine). m.desc) c.machine-machine.ensures.same) c.select-guest.ensures.cells c.select-guest.ensures.guest is c.turn_on-told.ensures.told

pub returns-clause-stands : goal.returns-clause-stands
returns-clause-stands g c =
    let m = c.args.self.now.accepted.machine.now in
    Stands-some m.desc c.args.k c.turn_on-told.result.turns _ (g.H.Hardware.machinery c.select-guest.new.hw) _ c.args.self.now.guests _ c.args.self.now.current _ c.select-guest.result _ m.valid c.requires.stands c.select-guest.ensures.guest
    c.select-guest.ensures.cells (c.set.ensures ∙ ap (λ l. slice_set l c.args.k c.turn_on-told.new.guest) c.select-guest.ensures.guests) c.select-guest.ensures.current
    (Went-machine m.desc c.machine-machine.result.now.desc _ _ _ _ _ (ap (λ (x : Machine). x.desc) c.machine-machine.ensures.same) c.turn_on-told.ensures.went)

pub returns-clause-turned : goal.returns-clause-turned
returns-clause-turned g c =
    let m = c.args.self.now.accepted.machine.now in
    Turned-some m.desc c.args.k c.turn_on-told.result.turns _ (g.H.Hardware.machinery c.select-guest.new.hw) _ c.args.self.now.guests _ c.args.self.now.current _ c.select-guest.result _ (let some = c.turn_on-told.ensures.told.some (omega (arith, c.if-most-eq0.false)) in omega (arith, some)) c.requires.stands c.select-guest.ensures.guest
    (record { cells = c.select-guest.ensures.cells; tally = c.select-guest.ensures.tally; bottom = c.select-guest.ensures.bottom })
    (c.set.ensures ∙ ap (λ l. slice_set l c.args.k c.turn_on-told.new.guest) c.select-guest.ensures.guests) c.select-guest.ensures.current
    (Went-machine m.desc c.machine-machine.result.now.desc _ _ _ _ _ (ap (λ (x : Machine). x.desc) c.machine-machine.ensures.same) c.turn_on-told.ensures.went)

pub returns-clause-fixed : goal.returns-clause-fixed
returns-clause-fixed g c = c.turn_on-told.ensures.fixed ∙ c.select-guest.ensures.fixed

pub invariant_of-self : goal.invariant_of-self
invariant_of-self g c =
    let m = c.args.self.now.accepted.machine.now in
    let went = Went-machine m.desc c.machine-machine.result.now.desc _ _ _ c.select-guest.result _ (ap (λ (x : Machine). x.desc) c.machine-machine.ensures.same) c.turn_on-told.ensures.went in
    record {
      owned = owned-set _ _ c.select-guest.new.self.guests _ c.args.k c.select-guest.result _ c.select-guest.new.self.owned
          (ap (λ (l : List Guest). slice_get l c.args.k) c.select-guest.ensures.guests ∙ c.select-guest.ensures.guest)
          (ap (λ (x : Guest). x.base) went.guest) (ap (λ (x : Guest). x.size) went.guest) c.set.ensures;
    }
