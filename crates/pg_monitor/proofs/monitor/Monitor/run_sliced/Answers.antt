use Rattle.std.proofs.Common.{◌%◌, length, ap, ◌∙◌, subst, arith}
use Rattle.pg_mach_ready.specs.declared.machine.Machine.{Machine}
use Rattle.pg_mon_control.specs.Standing.{Stands}
use Rattle.pg_monitor.proofs.ScheduleLemmas.{Begun-same, Begun-round, Begun-schedule, Followed-schedule}
use Rattle.pg_monitor.proofs.monitor.Monitor.run_sliced.Goals as goal

pub loop-preserved : goal.loop-preserved
loop-preserved g c =
    let m = c.args.self.now.accepted.machine.now in
    let before = c.loop.invariant in
    let same = ap (λ (x : Machine). x.desc) before.machine in
    let one = Begun-same m.desc c.loop.self.accepted.machine.now.desc (length c.args.self.now.guests) _ c.args.slice _ _ _ _ _ _ _ c.go_round.ensures.begun same before.number (omega arith) in
    record {
      machine = c.go_round.ensures.machine ∙ before.machine;
      granted = c.go_round.ensures.granted ∙ before.granted;
      stands = subst (λ x. Stands x (g.H.Hardware.machinery c.go_round.new.hw).state c.go_round.new.self.guests c.go_round.new.self.current) same c.go_round.ensures.stands;
      number = c.go_round.ensures.number ∙ before.number;
      fixed = c.go_round.ensures.fixed ∙ before.fixed;
      begun = Begun-round m.desc (length c.args.self.now.guests) c.args.slice c.loop.counter _ _ _ _ _ _ _ _ _ before.begun one;
    }

pub returns-clause-followed : goal.returns-clause-followed
returns-clause-followed g c =
    let m = c.args.self.now.accepted.machine.now in
    let before = c.loop.invariant in
    let last = Begun-same m.desc c.loop.self.accepted.machine.now.desc (length c.args.self.now.guests) _ (c.args.n % c.args.slice) _ _ _ _ _ _ _ c.go_round-2.ensures.begun
    (ap (λ (x : Machine). x.desc) before.machine) before.number (omega arith) in
    Begun-schedule m.desc (length c.args.self.now.guests) c.args.slice c.args.n c.loop.counter _ _ _ _ _ _ _ _ _ (omega arith) before.begun last

pub returns-clause-states : goal.returns-clause-states
returns-clause-states g c =
    let m = c.args.self.now.accepted.machine.now in
    Followed-schedule m.desc c.args.slice c.args.n _ _ c.args.self.now.guests _ _ _ (returns-clause-followed g c)
