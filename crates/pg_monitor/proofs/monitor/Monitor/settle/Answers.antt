use Rattle.std.proofs.Common.{ap, ◌∙◌, slice_set, slice_get, List, arith}
use Rattle.pg_mach_ready.specs.declared.machine.Machine.{Machine}
use Rattle.pg_mon_control.specs.declared.guest.Guest.{Guest}
use Rattle.pg_mon_control.proofs.OwnLemmas.{owned-set}
use Rattle.pg_monitor.proofs.SettleLemmas.{TellsFirst-none, TellsFirst-guest}
use Rattle.pg_monitor.proofs.TurnedLemmas.{Went-machine, Stands-some, Turned-some, Turned-zero}
use Rattle.pg_monitor.proofs.monitor.Monitor.settle.Goals as goal

pub returns-then-n-eq0-clause-turned : goal.returns-then-n-eq0-clause-turned
returns-then-n-eq0-clause-turned g c = Turned-zero _ _ _ _ _ _ c.requires.stands c.requires.known c.if-n-eq0.true

pub returns-then-n-eq0-clause-first : goal.returns-then-n-eq0-clause-first
returns-then-n-eq0-clause-first g c = λ x is. TellsFirst-none _ c.args.n _ c.if-n-eq0.true

pub returns-clause-first : goal.returns-clause-first
returns-clause-first g c = λ x is.
    TellsFirst-guest c.args.self.now.accepted.machine.now.desc _ c.args.n _ _ c.args.self.now.guests c.args.k c.select-guest.result x _
    (ap (λ (m : Machine). m.desc) c.machine-machine.ensures.same) c.select-guest.ensures.cells c.select-guest.ensures.guest is c.settle_often-still.ensures.first

pub returns-clause-stands : goal.returns-clause-stands
returns-clause-stands g c =
    let m = c.args.self.now.accepted.machine.now in
    Stands-some m.desc c.args.k c.args.n _ (g.H.Hardware.machinery c.select-guest.new.hw) _ c.args.self.now.guests _ c.args.self.now.current _ c.select-guest.result _ m.valid c.requires.stands c.select-guest.ensures.guest
    c.select-guest.ensures.cells (c.set.ensures ∙ ap (λ l. slice_set l c.args.k c.settle_often-still.new.guest) c.select-guest.ensures.guests) c.select-guest.ensures.current
    (Went-machine m.desc c.machine-machine.result.now.desc _ _ _ _ _ (ap (λ (x : Machine). x.desc) c.machine-machine.ensures.same) c.settle_often-still.ensures.went)

pub returns-clause-turned : goal.returns-clause-turned
returns-clause-turned g c =
    let m = c.args.self.now.accepted.machine.now in
    Turned-some m.desc c.args.k c.args.n _ (g.H.Hardware.machinery c.select-guest.new.hw) _ c.args.self.now.guests _ c.args.self.now.current _ c.select-guest.result _ (omega (arith, c.if-n-eq0.false)) c.requires.stands c.select-guest.ensures.guest
    (record { cells = c.select-guest.ensures.cells; tally = c.select-guest.ensures.tally; bottom = c.select-guest.ensures.bottom })
    (c.set.ensures ∙ ap (λ l. slice_set l c.args.k c.settle_often-still.new.guest) c.select-guest.ensures.guests) c.select-guest.ensures.current
    (Went-machine m.desc c.machine-machine.result.now.desc _ _ _ _ _ (ap (λ (x : Machine). x.desc) c.machine-machine.ensures.same) c.settle_often-still.ensures.went)

pub returns-clause-fixed : goal.returns-clause-fixed
returns-clause-fixed g c = c.settle_often-still.ensures.fixed ∙ c.select-guest.ensures.fixed

pub invariant_of-self : goal.invariant_of-self
invariant_of-self g c =
    let m = c.args.self.now.accepted.machine.now in
    let went = Went-machine m.desc c.machine-machine.result.now.desc _ _ _ c.select-guest.result _ (ap (λ (x : Machine). x.desc) c.machine-machine.ensures.same) c.settle_often-still.ensures.went in
    record {
      owned = owned-set _ _ c.select-guest.new.self.guests _ c.args.k c.select-guest.result _ c.select-guest.new.self.owned
          (ap (λ (l : List Guest). slice_get l c.args.k) c.select-guest.ensures.guests ∙ c.select-guest.ensures.guest)
          (ap (λ (x : Guest). x.base) went.guest) (ap (λ (x : Guest). x.size) went.guest) c.set.ensures;
    }
