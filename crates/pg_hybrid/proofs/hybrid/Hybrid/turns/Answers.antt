use Rattle.std.proofs.Common.{refl, ap, ◌∙◌, ◌+◌, ◌-◌, subst, arith}
use Rattle.pg_mach_ready.specs.declared.machine.Machine.{Machine}
use Rattle.pg_mon_control.specs.Standing.{Stands}
use Rattle.pg_mon_control.proofs.PlanLemmas.{grants-length}
use Rattle.pg_hybrid.proofs.TurnedLemmas.{Turned-zero, Turned-then, Turned-count, Turned-machine}
use Rattle.pg_hybrid.proofs.hybrid.Hybrid.turns.Goals as goal

pub loop-left-init : goal.loop-left-init
loop-left-init g c =
    let d = c.args.self.now.accepted.machine.now.desc in
    record {
      most = omega arith;
      machine = refl;
      granted = refl;
      stands = c.requires.stands;
      number = refl;
      turned = Turned-count d c.args.k 0 (c.args.n - c.args.n) _ _ _ _ _ _ (omega arith) (Turned-zero d c.args.k _ c.args.self.now.guests _ c.requires.known);
      fixed = refl;
    }

pub loop-left-preserved : goal.loop-left-preserved
loop-left-preserved g c =
    let d = c.args.self.now.accepted.machine.now.desc in
    let before = c.loop-left.invariant in
    let within = before.most in
    let same = ap (λ (x : Machine). x.desc) before.machine in
    let one = Turned-machine d c.loop-left.self.accepted.machine.now.desc _ _ _ _ _ _ _ _ same c.turn_on-left.ensures.turned in
    record {
      most = omega (arith, within);
      machine = c.turn_on-left.ensures.machine ∙ before.machine;
      granted = c.turn_on-left.ensures.granted ∙ before.granted;
      stands = subst (λ x. Stands x (g.H.Hardware.machinery c.turn_on-left.new.hw).state c.turn_on-left.new.self.guests c.turn_on-left.new.self.current) same c.turn_on-left.ensures.stands;
      number = grants-length _ _ one.grants ∙ before.number;
      turned = Turned-count d c.args.k ((c.args.n - c.loop-left.left) + c.turn_on-left.result) (c.args.n - (c.loop-left.left - c.turn_on-left.result)) _ _ _ _ _ _
          (omega (arith, within, c.turn_on-left.ensures.most))
          (Turned-then d c.args.k _ _ _ _ _ _ _ _ _ _ _ before.turned one);
      fixed = c.turn_on-left.ensures.fixed ∙ before.fixed;
    }

pub returns-clause-turned : goal.returns-clause-turned
returns-clause-turned g c =
    Turned-count c.args.self.now.accepted.machine.now.desc c.args.k (c.args.n - c.loop-left.left) c.args.n _ _ _ _ _ _ (omega (arith, c.loop-left-test.false)) c.loop-left.invariant.turned
