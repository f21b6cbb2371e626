use Rattle.std.proofs.Common.{ap, sym, ◌∙◌, subst, slice_get, ◌≡◌, Some, List, Option, ℕ}
use Rattle.pg_mach_ready.specs.declared.machine.Machine.{Machine}
use Rattle.pg_mon_control.specs.declared.guest.Guest.{Guest}
use Rattle.pg_mon_control.specs.Standing.{Stands}
use Rattle.pg_mon_control.proofs.OwnLemmas.{owned-set}
use Rattle.pg_hybrid.specs.Turns.{HybridTurned}
use Rattle.pg_hybrid.proofs.TurnedLemmas.{Stepped-machine, stepped-once, turned-stepped, stands-stepped}
use Rattle.pg_hybrid.proofs.hybrid.Hybrid.step_turns.Goals as goal

pub invariant_of-self : goal.invariant_of-self
invariant_of-self g c =
    let went = c.burst_on-burst.ensures.stepped.advanced in
    record {
      owned = owned-set _ _ c.args.self.now.guests _ c.args.k c.select-guest.result _ c.args.self.now.owned
          (ap (λ (l : List Guest). slice_get l c.args.k) (sym c.as_slice.ensures) ∙ c.select-guest.ensures.guest)
          (ap (λ (x : Guest). x.base) went.guest) (ap (λ (x : Guest). x.size) went.guest) c.set.ensures;
    }

pub returns-clause-stands : goal.returns-clause-stands
returns-clause-stands g c =
    let m = c.args.self.now.accepted.machine.now in
    subst (λ (o : Option ℕ). Stands m.desc (g.H.Hardware.machinery c.burst_on-burst.new.hw).state c.set.new.self o) (sym c.then_some-self.ensures)
    (stands-stepped m.desc c.args.k c.burst_on-burst.result.done c.burst_on-burst.result.goes_on _ (g.H.Hardware.machinery c.select-guest.new.hw) _ c.args.self.now.guests _
    c.args.self.now.current c.select-guest.result _ m.valid
    (record {
      stands = c.requires.stands;
      is = ap (λ (l : List Guest). slice_get l c.args.k) (sym c.as_slice.ensures) ∙ c.select-guest.ensures.guest;
      cells = c.select-guest.ensures.cells;
      tally = c.select-guest.ensures.tally;
      bottom = c.select-guest.ensures.bottom;
      least = c.burst_on-burst.ensures.least;
      mode = c.requires.user c.select-guest.result (ap (λ (l : List Guest). slice_get l c.args.k) (sym c.as_slice.ensures) ∙ c.select-guest.ensures.guest);
      done = Stepped-machine m.desc c.machine-machine.result.now.desc _ _ _ _ _ _ (ap (λ (x : Machine). x.desc) c.machine-machine.ensures.same) c.burst_on-burst.ensures.stepped;
      set = c.set.ensures;
    }))

pub returns-clause-turned : goal.returns-clause-turned
returns-clause-turned g c =
    let m = c.args.self.now.accepted.machine.now in
    subst (λ (o : Option ℕ). HybridTurned m.desc c.args.k c.burst_on-burst.result.done (g.H.Hardware.machinery c.args.hw.now) (g.H.Hardware.machinery c.burst_on-burst.new.hw)
    c.args.self.now.guests c.set.new.self c.args.self.now.current o) (sym c.then_some-self.ensures)
    (turned-stepped m.desc c.args.k c.burst_on-burst.result.done c.burst_on-burst.result.goes_on _ (g.H.Hardware.machinery c.select-guest.new.hw) _ c.args.self.now.guests _
    c.args.self.now.current c.select-guest.result _
    (record {
      stands = c.requires.stands;
      is = ap (λ (l : List Guest). slice_get l c.args.k) (sym c.as_slice.ensures) ∙ c.select-guest.ensures.guest;
      cells = c.select-guest.ensures.cells;
      tally = c.select-guest.ensures.tally;
      bottom = c.select-guest.ensures.bottom;
      least = c.burst_on-burst.ensures.least;
      mode = c.requires.user c.select-guest.result (ap (λ (l : List Guest). slice_get l c.args.k) (sym c.as_slice.ensures) ∙ c.select-guest.ensures.guest);
      done = Stepped-machine m.desc c.machine-machine.result.now.desc _ _ _ _ _ _ (ap (λ (x : Machine). x.desc) c.machine-machine.ensures.same) c.burst_on-burst.ensures.stepped;
      set = c.set.ensures;
    }))

pub returns-clause-direct : goal.returns-clause-direct
returns-clause-direct g c = λ h is current one direct.
    let m = c.args.self.now.accepted.machine.now in
    stepped-once m.desc c.args.k c.burst_on-burst.result.done c.burst_on-burst.result.goes_on _ (g.H.Hardware.machinery c.select-guest.new.hw) _ c.args.self.now.guests c.select-guest.result h _
    (ap (λ (l : List Guest). slice_get l c.args.k) (sym c.as_slice.ensures) ∙ c.select-guest.ensures.guest) is (c.select-guest.ensures.same current)
    (Stepped-machine m.desc c.machine-machine.result.now.desc _ _ _ _ _ _ (ap (λ (x : Machine). x.desc) c.machine-machine.ensures.same) c.burst_on-burst.ensures.stepped) one direct
