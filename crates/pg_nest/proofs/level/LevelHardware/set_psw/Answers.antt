use Rattle.std.proofs.Common.{◌≡◌, slice_set, List}
use Rattle.pg_mon_control.specs.declared.guest.Guest.{Guest}
use Rattle.pg_mon_control.specs.Current.{with_psw}
use Rattle.pg_monitor.proofs.ReachLemmas.{guest-known}
use Rattle.pg_nest.specs.Presenting.{first_guest}
use Rattle.pg_nest.proofs.AgreeingBursts.{served-same, psw-fits-same}
use Rattle.pg_nest.proofs.LevelLemmas.{kept-served, kept-room, kept-runs, some-runs, some-presents, presents-machine, reset-presents}
use Rattle.pg_nest.proofs.PresentLemmas.{alone-first}
use Rattle.pg_nest.proofs.level.LevelHardware.set_psw.Goals as goal

pub set_guest-requires-clause-served : goal.set_guest-requires-clause-served
set_guest-requires-clause-served g c =
    let l = c.args.self.now in
    served-same (g.H.Hardware.serves (g.H.Hardware.fixed l.hw)) l.accepted.machine.now.desc c.in-Some.monitor.accepted.machine.now.desc (some-runs l.accepted.machine.now.desc l.monitor c.in-Some.monitor c.in-Some.is l.runs) l.served

pub set_guest-requires-clause-fields : goal.set_guest-requires-clause-fields
set_guest-requires-clause-fields g c =
    let l = c.args.self.now in
    psw-fits-same c.in-Some.monitor.accepted.machine.now.desc l.accepted.machine.now.desc c.args.psw (some-runs l.accepted.machine.now.desc l.monitor c.in-Some.monitor c.in-Some.is l.runs) c.requires

pub invariant_of-self : goal.invariant_of-self
invariant_of-self g c =
    let l = c.args.self.now in
    let m = c.in-Some.monitor in
    let real = (g.H.Hardware.machinery l.hw).state in
    let now = (g.H.Hardware.machinery c.set_guest.new.hw).state in
    let p = some-presents real l.monitor m c.in-Some.is l.presents in
    record {
      served = kept-served g.H.Hardware.serves _ _ l.accepted.machine.now.desc c.set_guest.ensures.fixed l.served;
      room = kept-room g.H.Hardware.room _ _ l.accepted.machine.now.desc.size c.set_guest.ensures.fixed l.room;
      runs = kept-runs l.accepted.machine.now.desc m c.set_guest.new.self c.set_guest.ensures.machine (some-runs l.accepted.machine.now.desc l.monitor m c.in-Some.is l.runs);
      presents = presents-machine m c.set_guest.new.self now c.set_guest.ensures.machine
          (reset-presents m c.set_guest.new.self real now c.args.psw p c.set_guest.ensures.stands
          (guest-known m.guests 0 (first_guest m.guests) (λ (x : Guest). c.set_guest.new.self.guests ≡ slice_set m.guests 0 (with_psw x c.args.psw)) (alone-first m.guests p.alone) c.set_guest.ensures.guests));
    }
