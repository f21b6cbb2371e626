use Rattle.std.proofs.Common.{◌≡◌, ◌∙◌, ap, sym, subst, []}
use Rattle.pg_mach_ready.specs.declared.machine.Machine.{Machine}
use Rattle.pg_hw.specs.Machinery.{Machinery}
use Rattle.pg_mon_control.specs.Standing.{Stands}
use Rattle.pg_nest.specs.Presenting.{first_state, PresentsAny}
use Rattle.pg_nest.proofs.LevelLemmas.{kept-served, kept-room, level-installed}
use Rattle.pg_nest.proofs.PresentLemmas.{presents-of, started-alone, started-base, started-blank-of}
use Rattle.pg_nest.proofs.level.LevelHardware.install.Goals as goal

pub invariant_of-self : goal.invariant_of-self
invariant_of-self g c =
    let l = c.args.self.now in
    record {
      served = kept-served g.H.Hardware.serves _ _ l.accepted.machine.now.desc c.install.ensures.fixed l.served;
      room = kept-room g.H.Hardware.room _ _ l.accepted.machine.now.desc.size c.install.ensures.fixed l.room;
      runs = l.runs;
      presents = subst (λ (h : Machinery). PresentsAny h.state l.monitor) (sym c.in-Err.ensures.refused) l.presents;
    }

pub invariant_of-self-2 : goal.invariant_of-self-2
invariant_of-self-2 g c =
    let l = c.args.self.now in
    let m = c.start.result in
    let now = (g.H.Hardware.machinery c.start.new.hw).state in
    let fixed = c.start.ensures.fixed ∙ c.install.ensures.fixed in
    record {
      served = kept-served g.H.Hardware.serves _ _ l.accepted.machine.now.desc fixed l.served;
      room = kept-room g.H.Hardware.room _ _ l.accepted.machine.now.desc.size fixed l.room;
      runs = ∣ ap (λ (x : Machine). x.desc) (c.start.ensures.monitor.machine ∙ c.in-Ok.ensures.machine) ∣₁;
      presents = presents-of m.accepted.machine.now.desc now m.guests m.current
          (subst (λ (x : Machine). Stands x.desc now m.guests m.current) (sym c.start.ensures.monitor.machine) c.start.ensures.stands)
          (started-alone _ m.guests c.start.ensures.ready.guests) (started-base _ m.guests c.start.ensures.ready.guests);
    }

pub returns-clause-installed : goal.returns-clause-installed
returns-clause-installed g c =
    let l = c.args.self.now in
    level-installed (g.H.Hardware.machinery l.hw) (g.H.Hardware.machinery c.start.new.hw) l.monitor c.start.result l.idle l.counts c.args.size
    (started-blank-of c.in-Ok.prepared.size c.args.size (g.H.Hardware.machinery c.start.new.hw).state.cells c.start.result.guests c.in-Ok.ensures.size c.start.ensures.ready.guests c.start.ensures.states)
    (ap (λ (h : Machinery). h.bottom) c.start.ensures.taken ∙ ap (λ (h : Machinery). h.bottom) c.in-Ok-install.ensures.installed)
