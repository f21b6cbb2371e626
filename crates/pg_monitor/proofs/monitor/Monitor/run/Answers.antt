use Rattle.std.proofs.Common.{ap, ◌∙◌, subst, arith}
use Rattle.pg_mach_ready.specs.declared.machine.Machine.{Machine}
use Rattle.pg_mon_control.specs.Standing.{Stands}
use Rattle.pg_monitor.proofs.PlanLemmas.{Followed-own, Followed-on, Followed-end, Turned-machine}
use Rattle.pg_mon_control.proofs.PlanLemmas.{grants-length}
use Rattle.pg_monitor.proofs.monitor.Monitor.run.Goals as goal

pub loop-turn-preserved : goal.loop-turn-preserved
loop-turn-preserved g c =
    let m = c.args.self.now.accepted.machine.now in
    let before = c.loop-turn.invariant in
    let same = ap (λ (x : Machine). x.desc) before.machine in
    let one = Turned-machine m.desc c.loop-turn.self.accepted.machine.now.desc _ _ _ _ _ _ _ _ same c.turns.ensures.turned in
    record {
      machine = c.turns.ensures.machine ∙ before.machine;
      granted = c.turns.ensures.granted ∙ before.granted;
      stands = subst (λ x. Stands x (g.H.Hardware.machinery c.turns.new.hw).state c.turns.new.self.guests c.turns.new.self.current) same c.turns.ensures.stands;
      known = grants-length _ _ one.grants ∙ before.known;
      fixed = c.turns.ensures.fixed ∙ before.fixed;
      goes = λ new gs current rest. before.goes new gs current
          (Followed-on m.desc c.args.plan.now c.loop-turn.turn-index _ _ _ new _ _ gs _ _ current m.valid before.stands c.loop-turn-test.true one rest);
    }

pub returns-clause-followed : goal.returns-clause-followed
returns-clause-followed g c =
    c.loop-turn.invariant.goes _ _ _
    (Followed-end c.args.self.now.accepted.machine.now.desc c.args.plan.now c.loop-turn.turn-index _ _ _ (omega (arith, c.loop-turn-test.false)))

pub returns-clause-own : goal.returns-clause-own
returns-clause-own g c =
    Followed-own c.args.self.now.accepted.machine.now.desc c.args.plan.now _ _ _ _ _ _
    (c.loop-turn.invariant.goes _ _ _
    (Followed-end c.args.self.now.accepted.machine.now.desc c.args.plan.now c.loop-turn.turn-index _ _ _ (omega (arith, c.loop-turn-test.false))))
