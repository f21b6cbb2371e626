use Rattle.pg_nest.proofs.AgreeingBursts.{served-same, word-fits-same}
use Rattle.pg_nest.proofs.LevelLemmas.{kept-served, kept-room, kept-runs, some-runs, some-presents, presents-machine, poked-presents}
use Rattle.pg_nest.proofs.level.LevelHardware.poke.Goals as goal

pub poke-requires-clause-served : goal.poke-requires-clause-served
poke-requires-clause-served g c =
    let l = c.args.self.now in
    served-same (g.H.Hardware.serves (g.H.Hardware.fixed l.hw)) l.accepted.machine.now.desc c.in-Some.monitor.accepted.machine.now.desc (some-runs l.accepted.machine.now.desc l.monitor c.in-Some.monitor c.in-Some.is l.runs) l.served

pub poke-requires-clause-word : goal.poke-requires-clause-word
poke-requires-clause-word g c =
    let l = c.args.self.now in
    word-fits-same c.in-Some.monitor.accepted.machine.now.desc l.accepted.machine.now.desc c.args.word (some-runs l.accepted.machine.now.desc l.monitor c.in-Some.monitor c.in-Some.is l.runs) c.requires.word

pub invariant_of-self : goal.invariant_of-self
invariant_of-self g c =
    let l = c.args.self.now in
    let m = c.in-Some.monitor in
    let real = (g.H.Hardware.machinery l.hw).state in
    let now = (g.H.Hardware.machinery c.poke.new.hw).state in
    record {
      served = kept-served g.H.Hardware.serves _ _ l.accepted.machine.now.desc c.poke.ensures.fixed l.served;
      room = kept-room g.H.Hardware.room _ _ l.accepted.machine.now.desc.size c.poke.ensures.fixed l.room;
      runs = kept-runs l.accepted.machine.now.desc m c.poke.new.self c.poke.ensures.monitor.machine (some-runs l.accepted.machine.now.desc l.monitor m c.in-Some.is l.runs);
      presents = presents-machine m c.poke.new.self now c.poke.ensures.monitor.machine
          (poked-presents m c.poke.new.self real now (some-presents real l.monitor m c.in-Some.is l.presents) c.poke.ensures.stands c.poke.ensures.monitor.guests);
    }
