use Rattle.std.proofs.Common.{ap, sym, subst, ◌≡◌, Option, ℕ}
use Rattle.pg_mach_ready.specs.declared.machine.Machine.{Machine}
use Rattle.pg_mon_control.specs.declared.guest.Guest.{Guest}
use Rattle.pg_mon_control.specs.Current.{Holds}
use Rattle.pg_mon_control.specs.Standing.{Stands}
use Rattle.pg_mon_control.proofs.GuestLemmas.{Holds-of}
use Rattle.pg_mon_control.proofs.OwnLemmas.{owned-set}
use Rattle.pg_hybrid.specs.Turns.{HybridTurned}
use Rattle.pg_hybrid.proofs.TurnedLemmas.{Interpreted-machine, turned-interpreted, stands-interpreted}
use Rattle.pg_hybrid.proofs.hybrid.Hybrid.interpret_turn.Goals as goal

pub interpret-requires-clause-holds : goal.interpret-requires-clause-holds
interpret-requires-clause-holds g c =
    subst (λ (x : Machine). Holds x.desc (g.H.Hardware.machinery c.args.hw.now).state c.guest-guest.result) (sym c.machine-machine.ensures.same)
    (Holds-of c.args.self.now.accepted.machine.now.desc _ c.args.self.now.guests c.args.self.now.current c.args.k c.guest-guest.result c.requires.stands c.guest-guest.ensures)

pub invariant_of-self : goal.invariant_of-self
invariant_of-self g c =
    let went = c.interpret.ensures.interpreted.advanced in
    record {
      owned = owned-set _ _ c.args.self.now.guests _ c.args.k c.guest-guest.result _ c.args.self.now.owned c.guest-guest.ensures
          (ap (λ (x : Guest). x.base) went.guest) (ap (λ (x : Guest). x.size) went.guest) c.set.ensures;
    }

pub returns-clause-stands : goal.returns-clause-stands
returns-clause-stands g c =
    let m = c.args.self.now.accepted.machine.now in
    subst (λ (o : Option ℕ). Stands m.desc (g.H.Hardware.machinery c.interpret.new.hw).state c.set.new.self o) (sym c.without-self.ensures)
    (stands-interpreted m.desc c.args.k _ _ c.args.self.now.guests _ c.args.self.now.current c.guest-guest.result _ m.valid
    (record {
      stands = c.requires.stands;
      is = c.guest-guest.ensures;
      mode = c.requires.supervisor c.guest-guest.result c.guest-guest.ensures;
      done = Interpreted-machine m.desc c.machine-machine.result.now.desc _ _ _ _ (ap (λ (x : Machine). x.desc) c.machine-machine.ensures.same) c.interpret.ensures.interpreted;
      set = c.set.ensures;
    }))

pub returns-clause-turned : goal.returns-clause-turned
returns-clause-turned g c =
    let m = c.args.self.now.accepted.machine.now in
    subst (λ (o : Option ℕ). HybridTurned m.desc c.args.k 1 (g.H.Hardware.machinery c.args.hw.now) (g.H.Hardware.machinery c.interpret.new.hw) c.args.self.now.guests c.set.new.self c.args.self.now.current o)
    (sym c.without-self.ensures)
    (turned-interpreted m.desc c.args.k _ _ c.args.self.now.guests _ c.args.self.now.current c.guest-guest.result _
    (record {
      stands = c.requires.stands;
      is = c.guest-guest.ensures;
      mode = c.requires.supervisor c.guest-guest.result c.guest-guest.ensures;
      done = Interpreted-machine m.desc c.machine-machine.result.now.desc _ _ _ _ (ap (λ (x : Machine). x.desc) c.machine-machine.ensures.same) c.interpret.ensures.interpreted;
      set = c.set.ensures;
    }))
