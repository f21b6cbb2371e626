use Rattle.std.proofs.Common.{ap, ◌∙◌, subst, arith, take}
use Rattle.std.proofs.lemmas.List.{take_all}
use Rattle.pg_mach_ready.specs.declared.machine.Machine.{Machine}
use Rattle.pg_mon_control.specs.Standing.{Stands}
use Rattle.pg_mon_control.proofs.PlanLemmas.{grants-length}
use Rattle.pg_hybrid.proofs.TurnedLemmas.{Turned-machine}
use Rattle.pg_hybrid.proofs.PlanLemmas.{Followed-own, Followed-on, Followed-same}
use Rattle.pg_hybrid.proofs.hybrid.Hybrid.run.Goals as goal

pub loop-turn-preserved : goal.loop-turn-preserved
loop-turn-preserved g c =
    let d = c.args.self.now.accepted.machine.now.desc in
    let before = c.loop-turn.invariant in
    let same = ap (λ (x : Machine). x.desc) before.machine in
    let one = Turned-machine d c.loop-turn.self.accepted.machine.now.desc _ _ _ _ _ _ _ _ same c.turns.ensures.turned in
    record {
      machine = c.turns.ensures.machine ∙ before.machine;
      granted = c.turns.ensures.granted ∙ before.granted;
      stands = subst (λ x. Stands x (g.H.Hardware.machinery c.turns.new.hw).state c.turns.new.self.guests c.turns.new.self.current) same c.turns.ensures.stands;
      known = grants-length _ _ one.grants ∙ before.known;
      fixed = c.turns.ensures.fixed ∙ before.fixed;
      followed = Followed-on d c.args.plan.now c.loop-turn.turn-index _ _ _ _ _ _ _ _ _ _ c.loop-turn-test.true before.followed one;
    }

pub returns-clause-followed : goal.returns-clause-followed
returns-clause-followed g c =
    Followed-same c.args.self.now.accepted.machine.now.desc (take c.loop-turn.turn-index c.args.plan.now) c.args.plan.now _ _ _ _ _ _
    (take_all c.loop-turn.turn-index c.args.plan.now (omega (arith, c.loop-turn-test.false))) c.loop-turn.invariant.followed

pub returns-clause-own : goal.returns-clause-own
returns-clause-own g c = Followed-own c.args.self.now.accepted.machine.now.desc c.args.plan.now _ _ _ _ _ _ (returns-clause-followed g c)
