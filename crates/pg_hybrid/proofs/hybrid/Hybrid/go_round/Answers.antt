use Rattle.std.proofs.Common.{length, refl, ap, ◌∙◌, subst, arith}
use Rattle.pg_mach_ready.specs.declared.machine.Machine.{Machine}
use Rattle.pg_mon_control.specs.Standing.{Stands}
use Rattle.pg_mon_control.proofs.PlanLemmas.{grants-length}
use Rattle.pg_hybrid.proofs.TurnedLemmas.{Turned-machine}
use Rattle.pg_hybrid.proofs.PlanLemmas.{Followed-none, Followed-guest, Followed-alike}
use Rattle.pg_hybrid.proofs.hybrid.Hybrid.go_round.Goals as goal

pub loop-k-preserved : goal.loop-k-preserved
loop-k-preserved g c =
    let d = c.args.self.now.accepted.machine.now.desc in
    let before = c.loop-k.invariant in
    let same = ap (λ (x : Machine). x.desc) before.machine in
    let one = Turned-machine d c.loop-k.self.accepted.machine.now.desc _ _ _ _ _ _ _ _ same c.turns.ensures.turned in
    record {
      machine = c.turns.ensures.machine ∙ before.machine;
      granted = c.turns.ensures.granted ∙ before.granted;
      stands = subst (λ x. Stands x (g.H.Hardware.machinery c.turns.new.hw).state c.turns.new.self.guests c.turns.new.self.current) same c.turns.ensures.stands;
      number = grants-length _ _ one.grants ∙ before.number;
      fixed = c.turns.ensures.fixed ∙ before.fixed;
      followed = Followed-guest d c.loop-k.k c.args.turns _ _ _ _ _ _ _ _ _ before.followed one;
    }

pub returns-clause-followed : goal.returns-clause-followed
returns-clause-followed g c =
    let d = c.args.self.now.accepted.machine.now.desc in
    Followed-alike d d (length c.args.self.now.guests) c.loop-k.k c.args.turns c.args.turns _ _ _ _ _ _ c.loop-k.invariant.followed refl (omega arith) refl
