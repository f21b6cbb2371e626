use Rattle.std.proofs.Common.{arith, ◌<◌, ap}
use Rattle.pg_hw.specs.Machinery.{Machinery}
use Rattle.pg_mon_control.specs.declared.guest.Guest.{Guest}
use Rattle.pg_monitor.proofs.ReachLemmas.{guest-known, reached-within, reached-fits, poked-states, poked-stands}
use Rattle.pg_monitor.proofs.monitor.Monitor.poke.Goals as goal

pub overflow_add-base : goal.overflow_add-base
overflow_add-base g c =
    let m = c.args.self.now.accepted.machine.now in
    let fits =
    reached-fits m.desc (g.H.Hardware.machinery c.args.hw.now).state c.args.self.now.guests c.args.self.now.current c.args.k c.guest-base.result c.args.at
    (record {
      valid = m.valid;
      stands = c.requires.stands;
      guest = c.guest-base.ensures;
      inside = guest-known c.args.self.now.guests c.args.k c.guest-base.result (λ (x : Guest). c.args.at < x.size) c.guest-base.ensures c.requires.within;
    }) in
    search (arith, fits)

pub poke-requires-clause-within : goal.poke-requires-clause-within
poke-requires-clause-within g c =
    let m = c.args.self.now.accepted.machine.now in
    reached-within m.desc (g.H.Hardware.machinery c.args.hw.now).state c.args.self.now.guests c.args.self.now.current c.args.k c.guest-base.result c.args.at
    (record {
      valid = m.valid;
      stands = c.requires.stands;
      guest = c.guest-base.ensures;
      inside = guest-known c.args.self.now.guests c.args.k c.guest-base.result (λ (x : Guest). c.args.at < x.size) c.guest-base.ensures c.requires.within;
    })

pub returns-clause-stands : goal.returns-clause-stands
returns-clause-stands g c =
    let m = c.args.self.now.accepted.machine.now in
    poked-stands m.desc (g.H.Hardware.machinery c.args.hw.now).state c.args.self.now.guests c.args.self.now.current c.args.k c.guest-base.result c.args.at
    (record {
      valid = m.valid;
      stands = c.requires.stands;
      guest = c.guest-base.ensures;
      inside = guest-known c.args.self.now.guests c.args.k c.guest-base.result (λ (x : Guest). c.args.at < x.size) c.guest-base.ensures c.requires.within;
    })
    c.args.word (g.H.Hardware.machinery c.poke.new.self).state c.requires.word (ap (λ (x : Machinery). x.state) c.poke.ensures.poked)

pub returns-clause-states : goal.returns-clause-states
returns-clause-states g c =
    let m = c.args.self.now.accepted.machine.now in
    poked-states m.desc (g.H.Hardware.machinery c.args.hw.now).state c.args.self.now.guests c.args.self.now.current c.args.k c.guest-base.result c.args.at
    (record {
      valid = m.valid;
      stands = c.requires.stands;
      guest = c.guest-base.ensures;
      inside = guest-known c.args.self.now.guests c.args.k c.guest-base.result (λ (x : Guest). c.args.at < x.size) c.guest-base.ensures c.requires.within;
    })
    c.args.word (g.H.Hardware.machinery c.poke.new.self).state c.requires.word (ap (λ (x : Machinery). x.state) c.poke.ensures.poked)
