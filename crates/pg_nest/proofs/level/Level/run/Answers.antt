use Rattle.pg_nest.proofs.AgreeingBursts.{served-same, agree-same}
use Rattle.pg_nest.proofs.LevelLemmas.{kept-served, kept-room, kept-runs, some-runs, some-presents, presents-machine, level-burst, counts-of}
use Rattle.pg_nest.proofs.level.Level.run.Goals as goal

pub burst-all-requires-clause-served : goal.burst-all-requires-clause-served
burst-all-requires-clause-served g c =
    let l = c.args.self.now in
    served-same (g.H.Hardware.serves (g.H.Hardware.fixed l.hw)) l.accepted.machine.now.desc c.in-Some.monitor.accepted.machine.now.desc (some-runs l.accepted.machine.now.desc l.monitor c.in-Some.monitor c.in-Some.is l.runs) l.served

pub invariant_of-self : goal.invariant_of-self
invariant_of-self g c =
    let l = c.args.self.now in
    let m = c.in-Some.monitor in
    let now = (g.H.Hardware.machinery c.burst-all.new.hw).state in
    record {
      served = kept-served g.H.Hardware.serves _ _ l.accepted.machine.now.desc c.burst-all.ensures.fixed l.served;
      room = kept-room g.H.Hardware.room _ _ l.accepted.machine.now.desc.size c.burst-all.ensures.fixed l.room;
      runs = kept-runs l.accepted.machine.now.desc m c.burst-all.new.monitor c.burst-all.ensures.machine (some-runs l.accepted.machine.now.desc l.monitor m c.in-Some.is l.runs);
      presents = presents-machine m c.burst-all.new.monitor now c.burst-all.ensures.machine c.burst-all.ensures.presents;
    }

pub returns-clause-ran : goal.returns-clause-ran
returns-clause-ran g c =
    let l = c.args.self.now in
    let m = c.in-Some.monitor in
    level-burst c.args.m.now.desc (g.H.Hardware.machinery l.hw) (g.H.Hardware.machinery c.burst-all.new.hw) l.monitor m c.burst-all.new.monitor l.idle l.counts _ c.args.k c.burst-all.result.done c.burst-all.result.untrapped
    (record {
      monitor = c.in-Some.is;
      agrees = agree-same m.accepted.machine.now.desc l.accepted.machine.now.desc c.args.m.now.desc (some-runs l.accepted.machine.now.desc l.monitor m c.in-Some.is l.runs) c.requires.served;
      count = c.burst-all.ensures.count;
      state = c.burst-all.ensures.state;
      untrapped = c.burst-all.ensures.untrapped;
      bottom = c.burst-all.ensures.bottom;
      counted = counts-of l.counts c.burst-all.result.done c.burst-all.result.untrapped c.raised-self.result c.raised-self-in-Some.result c.raised-self.ensures c.raised-self-in-Some.ensures;
    })
